-- What the word at a place of a line stands for, and the fault where it is not what was expected.
use Rattle.std.specs.Prelude.{◌≡◌, ℕ, ◌+◌, Bool, true, false, cond, List, length, Some, None, Ok, Err, codes, Option, Result, ◌==◌}
use Rattle.std.specs.Str.{bytes_eq}
use Rattle.words.specs.Numbers.{number, key}
use Rattle.words.specs.Words.{word_at}
use Rattle.words.specs.declared.fault.Expected.{Expected}
use Rattle.words.specs.declared.fault.Expected.TheVariants as expected
use Rattle.words.specs.declared.fault.Fault.{Fault}
use Rattle.words.specs.declared.fault.Keyword.{Keyword}
use Rattle.words.specs.declared.fault.Keyword.TheVariants.{Own, Ne, Back, Ahead, Fallback}
use Rattle.keys.specs.declared.Key.{Key}

-- what a word stands for, or else the fault
abbrev pub required : {X : Type 0} → Option X → ℕ → Expected → Result X Fault
required (Some x) n e = Ok x
required None n e = Err (record { place = n; expected = e })

-- an answer of the code tells what is read, of which each value means a number
abbrev pub Tells : {X : Type 0} → (X → ℕ) → Result X Fault → Result ℕ Fault → Type 0
Tells value (Ok x) r = r ≡ Ok (value x)
Tells value (Err e) r = r ≡ Err e

-- the first fault, or else what the second reader answers
abbrev pub next : {X Y : Type 0} → Result X Fault → (X → Result Y Fault) → Result Y Fault
next (Ok x) f = f x
next (Err e) f = Err e

-- something exactly where a test holds
abbrev pub only : Bool → Option (Unit {0})
only b = cond b (Some tt) None

-- what yes and no stand for
abbrev pub flag : List ℕ → Option Bool
flag w = cond (bytes_eq w (codes "yes")) (Some true) (cond (bytes_eq w (codes "no")) (Some false) None)

-- how a keyword is written
abbrev pub spelled : Keyword → List ℕ
spelled Own = codes "own"
spelled Ne = codes "ne"
spelled Back = codes "back"
spelled Ahead = codes "ahead"
spelled Fallback = codes "fallback"

-- a line has ended before a place
abbrev pub ended : ℕ → List ℕ → Bool
ended n line = length (word_at n line) == 0

-- the word at a place as a number of at most `limit`
unfoldable pub number_at : ℕ → ℕ → List ℕ → Result ℕ Fault
number_at limit n line = required (number limit (word_at n line)) n (expected.Number limit)

-- as a key
unfoldable pub key_at : ℕ → List ℕ → Result Key Fault
key_at n line = required (key (word_at n line)) n expected.Key

-- as yes or no
unfoldable pub flag_at : ℕ → List ℕ → Result Bool Fault
flag_at n line = required (flag (word_at n line)) n expected.YesOrNo

-- as that keyword
unfoldable pub keyword_at : Keyword → ℕ → List ℕ → Result (Unit {0}) Fault
keyword_at k n line = required (only (bytes_eq (word_at n line) (spelled k))) n (expected.Keyword k)

-- as none, where the line has ended
unfoldable pub end_at : ℕ → List ℕ → Result (Unit {0}) Fault
end_at n line = required (only (ended n line)) n expected.End

-- a keyword and the number of 64 bits after it
unfoldable pub field_at : Keyword → ℕ → List ℕ → Result ℕ Fault
field_at k n line = next (keyword_at k n line) λ _. number_at 18446744073709551615 (n + 1) line

-- a keyword and the yes or no after it
unfoldable pub switch_at : Keyword → ℕ → List ℕ → Result Bool Fault
switch_at k n line = next (keyword_at k n line) λ _. flag_at (n + 1) line
