-- The line that says to a person why a run ended, and what to do.
use Rattle.std.specs.Prelude.{◌≡◌, ◌++◌, ◌||◌, ℕ, List, codes, if◌then◌else◌}
use Rattle.std.specs.Char.{encode_utf8}
use Rattle.std.specs.Char.Unicode.Alphabetic.{is_alphabetic}
use Rattle.std.specs.Char.Unicode.Numeric.{is_numeric}
use Rattle.std.specs.Fmt.{decimal}
use Rattle.std.specs.List.{flat_map}
use Rattle.std.specs.Str.{chars, is_utf8}
use Rattle.tm_bits.specs.Escape.{escaped}

-- a character as it is shown: a letter or a digit of any script stands for itself, and each other one is printed as octets that may be anything
abbrev pub shown : ℕ → List ℕ
shown character = if is_alphabetic character || is_numeric character then encode_utf8 character else escaped (encode_utf8 character)

-- octets as they are shown: by their characters if they are UTF-8, else as octets that may be anything
abbrev pub shown_text : List ℕ → List ℕ
shown_text text = if is_utf8 text then flat_map shown (chars text) else escaped text

-- the line of a text: two spaces, the text as it is shown, and the end of the line
abbrev pub line_of : List ℕ → List ℕ
line_of text = codes "  " ++ (shown_text text ++ codes "\n")

-- the octets are the line of some text: so they are one line of visible characters and spaces, whatever files and words hold
abbrev pub IsLine : List ℕ → Type 0
IsLine octets = (text : List ℕ) × (octets ≡ line_of text)
