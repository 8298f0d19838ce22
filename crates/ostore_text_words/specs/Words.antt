-- Single words of the texts: identifiers, numbers in their one form, words of two names, and quoted texts.
use Rattle.std.specs.Prelude.{ℕ, ◌^◌, Bool, true, false, ◌&&◌, ◌||◌, not, List, [], ◌∷◌, ◌++◌, length, take, drop, ◌-◌, codes, Option, Some, None, nat_lt, nat_le, ◌==◌, if◌then◌else◌, ℤ, pos, negsuc, decimal}
use Rattle.std.specs.Char.{is_ascii_alphabetic, is_ascii_alphanumeric}
use Rattle.std.specs.Fmt.{signed_decimal}
use Rattle.std.specs.List.{flat_map, list_all, list_any}
use Rattle.std.specs.Str.{bytes_eq}
use Rattle.std.specs.Str.Parse.{digits_value, signed_digits_value}
use Rattle.ostore_base.specs.Limits.{most_segments}

-- the greatest serial of an object
abbrev pub greatest_serial : ℕ
greatest_serial = 4294967295

-- ---- identifiers

-- the words of the languages, which name nothing
unfoldable pub is_reserved : List ℕ → Bool
is_reserved word = list_any (bytes_eq word) (codes "type" ∷ codes "int" ∷ codes "text" ∷ codes "ref" ∷ codes "set" ∷ codes "list" ∷ codes "dict" ∷ codes "inverse" ∷ codes "null" ∷ codes "job" ∷ [])

-- a byte of an identifier after its first
abbrev pub is_name_byte : ℕ → Bool
is_name_byte byte = is_ascii_alphanumeric byte || byte == 95

-- a letter, then letters, digits and `_`
abbrev pub begins_as_name : List ℕ → Bool
begins_as_name [] = false
begins_as_name (byte ∷ others) = is_ascii_alphabetic byte && list_all is_name_byte others

-- an identifier has at most 31 bytes and is no word of the languages
unfoldable pub is_identifier : List ℕ → Bool
is_identifier word = begins_as_name word && nat_le (length word) 31 && not (is_reserved word)

-- ---- words read: what a word says, or nothing where it is no such word

infixl 10 ◌>>=◌
abbrev pub ◌>>=◌ : {A B : Type 0} → Option A → (A → Option B) → Option B
(Some x) >>= f = f x
None >>= f = None

-- the bytes after this one, where the word begins with it
abbrev pub after_byte : ℕ → List ℕ → Option (List ℕ)
after_byte byte [] = None
after_byte byte (first ∷ others) = if first == byte then Some others else None

-- the bytes before the first byte that is this one, and those after it
abbrev pub around_byte : ℕ → List ℕ → Option (List ℕ × List ℕ)
around_byte byte [] = None
around_byte byte (first ∷ others) = if first == byte then Some ([], others) else (around_byte byte others >>= λ parts. Some (first ∷ parts.0, parts.1))

abbrev pub identifier_at : List ℕ → Option (List ℕ)
identifier_at word = if is_identifier word then Some word else None

-- the two names of `first.second`
abbrev pub dotted : List ℕ → List ℕ → List ℕ
dotted first second = first ++ 46 ∷ second

unfoldable pub dotted_at : List ℕ → Option (List ℕ × List ℕ)
dotted_at word = do
  parts ← around_byte 46 word
  first ← identifier_at parts.0
  second ← identifier_at parts.1
  Some (first, second)

-- an int of 64 bits
abbrev pub is_int64 : ℤ → Bool
is_int64 (pos n) = nat_lt n (2 ^ 63)
is_int64 (negsuc n) = nat_lt n (2 ^ 63)

-- the int that the word spells in the one form of an int
unfoldable pub int_at : List ℕ → Option ℤ
int_at word = let n = signed_digits_value 10 word in if is_int64 n && bytes_eq (signed_decimal n) word then Some n else None

-- the count from one number to another that the word spells in its one form
unfoldable pub count_at : ℕ → ℕ → List ℕ → Option ℕ
count_at least most word = let n = digits_value 10 word in if nat_le least n && nat_le n most && bytes_eq (decimal n) word then Some n else None

-- ---- names of objects

-- the segment and the serial of `SEG.SERIAL`
unfoldable pub name_at : List ℕ → Option (ℕ × ℕ)
name_at word = do
  parts ← around_byte 46 word
  segment ← count_at 1 most_segments parts.0
  serial ← count_at 1 greatest_serial parts.1
  Some (segment, serial)

-- ---- quoted texts

-- a quote and a backslash have a backslash before them
abbrev pub escaped : ℕ → List ℕ
escaped byte = (if byte == 34 || byte == 92 then codes "\\" else []) ++ byte ∷ []

-- a text between quotes
abbrev pub quoted : List ℕ → List ℕ
quoted text = codes "\"" ++ flat_map escaped text ++ codes "\""

-- the bytes without the backslashes before others; `taken` says that one stood before them
abbrev pub unescaped : Bool → List ℕ → List ℕ
unescaped taken [] = []
unescaped taken (byte ∷ others) = if not taken && byte == 92 then unescaped true others else byte ∷ unescaped false others

-- what stands between the first byte of a word and its last
abbrev pub between : List ℕ → List ℕ
between word = take (length word - 2) (drop 1 word)

-- the text that the word spells in the one form of a quoted text, which holds no control byte
unfoldable pub quoted_at : List ℕ → Option (List ℕ)
quoted_at word = let text = unescaped false (between word) in if list_all (nat_le 32) word && bytes_eq (quoted text) word then Some text else None

-- ---- words of any kind

abbrev pub begins_quoted : List ℕ → Bool
begins_quoted [] = false
begins_quoted (byte ∷ others) = byte == 34

abbrev pub is_quoted : List ℕ → Bool
is_quoted word = bytes_eq (quoted (unescaped false (between word))) word

-- the word may stand somewhere: it holds no control byte, and where it begins with a quote it is a quoted text
unfoldable pub may_stand : List ℕ → Bool
may_stand word = list_all (nat_le 32) word && (not (begins_quoted word) || is_quoted word)
