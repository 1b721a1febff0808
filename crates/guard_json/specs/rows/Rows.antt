-- Worked examples of lines as JSON. What is expected was written by hand by RFC 8259 and the forms of lines.
use Rattle.std.specs.Prelude.{◌≡◌, [], ◌∷◌, codes, refl}
use Rattle.std.specs.Str.{is_utf8, chars}
use Rattle.json.specs.Print.{print_from, escape_byte}
use Rattle.hex.specs.Hex.{encode_with}
use Rattle.guard_json.specs.Objects.{json_line, json_text}

passed : json_line (codes "3 north>south order pass")
    ≡ codes "{\"text\":\"3 north>south order pass\",\"frame\":3,\"from\":\"north\",\"to\":\"south\",\"message\":\"order\",\"verdict\":\"pass\"}"
unfolding json_line print_from escape_byte is_utf8 chars lib.Utf8.encode
passed = refl

denied : json_line (codes "link 5 2 north>south order denied-by wide")
    ≡ codes "{\"text\":\"link 5 2 north>south order denied-by wide\",\"link\":5,\"frame\":2,\"from\":\"north\",\"to\":\"south\",\"message\":\"order\",\"verdict\":\"denied-by\",\"rule\":\"wide\"}"
unfolding json_line print_from escape_byte is_utf8 chars lib.Utf8.encode
denied = refl

two_rules : json_line (codes "1 a>b order not-allowed small Orders:8:45 $.qty, wide Orders:9:44 $.lines[0]")
    ≡ codes "{\"text\":\"1 a>b order not-allowed small Orders:8:45 $.qty, wide Orders:9:44 $.lines[0]\",\"frame\":1,\"from\":\"a\",\"to\":\"b\",\"message\":\"order\",\"verdict\":\"not-allowed\",\"violations\":[{\"rule\":\"small\",\"module\":\"Orders\",\"line\":8,\"column\":45,\"path\":\"$.qty\"},{\"rule\":\"wide\",\"module\":\"Orders\",\"line\":9,\"column\":44,\"path\":\"$.lines[0]\"}]}"
unfolding json_line print_from escape_byte is_utf8 chars lib.Utf8.encode
two_rules = refl

outside : json_line (codes "outside-type Orders:3:15 $.id")
    ≡ codes "{\"text\":\"outside-type Orders:3:15 $.id\",\"verdict\":\"outside-type\",\"module\":\"Orders\",\"line\":3,\"column\":15,\"path\":\"$.id\"}"
unfolding json_line print_from escape_byte is_utf8 chars lib.Utf8.encode
outside = refl

breached : json_line (codes "undecodable DefaultPresent at 8 $.qty")
    ≡ codes "{\"text\":\"undecodable DefaultPresent at 8 $.qty\",\"verdict\":\"undecodable\",\"code\":\"DefaultPresent\",\"offset\":8,\"path\":\"$.qty\"}"
unfolding json_line print_from escape_byte is_utf8 chars lib.Utf8.encode
breached = refl

no_header : json_line (codes "7 bad-header")
    ≡ codes "{\"text\":\"7 bad-header\",\"frame\":7,\"verdict\":\"bad-header\"}"
unfolding json_line print_from escape_byte is_utf8 chars lib.Utf8.encode
no_header = refl

compared : json_line (codes "1 a>b order pass -> denied-by big")
    ≡ codes "{\"text\":\"1 a>b order pass -> denied-by big\",\"frame\":1,\"from\":\"a\",\"to\":\"b\",\"message\":\"order\",\"old\":{\"verdict\":\"pass\"},\"new\":{\"verdict\":\"denied-by\",\"rule\":\"big\"}}"
unfolding json_line print_from escape_byte is_utf8 chars lib.Utf8.encode
compared = refl

torn : json_line (codes "link 5 F4 TornFrame")
    ≡ codes "{\"text\":\"link 5 F4 TornFrame\",\"link\":5,\"fault\":\"F4 TornFrame\"}"
unfolding json_line print_from escape_byte is_utf8 chars lib.Utf8.encode
torn = refl

fault : json_line (codes "derguard: N2 Undefined 1:2:10")
    ≡ codes "{\"text\":\"derguard: N2 Undefined 1:2:10\",\"fault\":\"N2 Undefined 1:2:10\"}"
unfolding json_line print_from escape_byte is_utf8 chars lib.Utf8.encode
fault = refl

note : json_line (codes "derguard: frames 3, passed 1, denied 2")
    ≡ codes "{\"text\":\"derguard: frames 3, passed 1, denied 2\",\"note\":\"frames 3, passed 1, denied 2\"}"
unfolding json_line print_from escape_byte is_utf8 chars lib.Utf8.encode
note = refl

-- no verdict has this form, so the line has no members
cut_short : json_line (codes "outside-type Orders:3 $.id") ≡ codes "{\"text\":\"outside-type Orders:3 $.id\"}"
unfolding json_line print_from escape_byte is_utf8 chars lib.Utf8.encode
cut_short = refl

-- a 0 in front is none of a number
no_number : json_line (codes "07 bad-header") ≡ codes "{\"text\":\"07 bad-header\"}"
unfolding json_line print_from escape_byte is_utf8 chars lib.Utf8.encode
no_number = refl

-- a quote, a reverse solidus and a tab are escaped
escaped : json_line (codes "ok: \"a\\b\t")
    ≡ codes "{\"text\":\"ok: \\\"a\\\\b\\t\"}"
unfolding json_line print_from escape_byte is_utf8 chars lib.Utf8.encode
escaped = refl

-- FF is none of UTF-8
no_text : json_line (97 ∷ 255 ∷ []) ≡ codes "{\"octets\":\"61ff\"}"
unfolding encode_with json_line print_from escape_byte is_utf8 chars lib.Utf8.encode
no_text = refl

-- a line that has not ended has no object yet
begun : json_text (codes "pass\nno-ru") ≡ codes "{\"text\":\"pass\",\"verdict\":\"pass\"}\n"
unfolding json_line print_from escape_byte is_utf8 chars lib.Utf8.encode
begun = refl
