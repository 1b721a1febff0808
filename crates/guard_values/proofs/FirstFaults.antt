-- The first fault stands at its site; reading refuses by the first fault; what whole values come to.
pub mod StandingFaults
pub mod ReadingRefuses
pub mod WholeValues
pub mod NamedRefusals
