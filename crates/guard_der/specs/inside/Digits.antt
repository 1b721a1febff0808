-- How the digits of a number are written in octets.
use Rattle.std.specs.Prelude.{ℕ, ◌+◌, ◌-◌}
use Rattle.guard_der.specs.declared.encoding.octets.Form.{Form}
use Rattle.guard_der.specs.declared.encoding.octets.Form.TheVariants.{Plain, Marked, Turned}

abbrev pub digit_octet : Form → ℕ → ℕ
digit_octet Plain digit = digit
digit_octet Marked digit = 128 + digit
digit_octet Turned digit = 255 - digit

-- so that it is an octet
abbrev pub digits_below : Form → ℕ
digits_below Plain = 256
digits_below Marked = 128
digits_below Turned = 256
