-- The faults of names, one after the other, and that there is one first fault.
pub mod FirstFaults
pub mod Refusals
pub mod Steps
pub mod OneFault
