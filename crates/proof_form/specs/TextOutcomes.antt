-- What the reader of annotations answers.
use Rattle.std.specs.Prelude.{◌≡◌, ◌≢◌, ℕ, ◌+◌, ◌<◌, ◌≤◌, ◌^◌, length, List, [], ◌∷◌, ◌++◌, map, codes, Option, None, Some, Result, Ok, Err}
use Rattle.std.specs.Borrow.{Bor}
use Rattle.std.specs.Fmt.{decimal}
use Rattle.std.specs.declared.vec.Vec.{Vec}
use Rattle.std.specs.declared.alloc.Global.{Global}
use Rattle.outer_io.specs.Lines.{lines_of}
use Rattle.proof_form.specs.declared.refusal.Refusal.{Refusal}
use Rattle.proof_form.specs.declared.refusal.Refusal.TheVariants.{Form, Memory}
use Rattle.proof_form.specs.declared.fault.ProofFault.{ProofFault}
use Rattle.proof_form.specs.declared.fault.ProofFault.TheVariants as faults
use Rattle.proof_form.specs.Annotations.{Content, ended, rounds_line, coarse_line, form_lines, AreShort}
use Rattle.proof_form.specs.declared.drafts.Draft.{Draft}
use Rattle.proof_form.specs.Standing.{NoCoarseLine, Completes, no_content, WrongBehindForm, WrongBehindRounds, FirstWrongOfText}
use Rattle.proof_form.specs.TextReading.{content_of}

-- the first of the lines is not this one
abbrev pub Lacks : List ℕ → List (List ℕ) → Type 0
Lacks line [] = Unit {0}
Lacks line (l ∷ ls) = l ≢ ended line

abbrev pub LacksRounds : List (List ℕ) → Type 0
LacksRounds [] = Unit {0}
LacksRounds (l ∷ ls) = (n : ℕ) → n < 2 ^ 64 → l ≢ ended (rounds_line n)

-- the lines begin with this one, and the others are those of the rest; or they do not
abbrev pub TakesLine : List ℕ → List ℕ → Option (Bor (List ℕ)) → Type 0
TakesLine line text None = Lacks line (lines_of text)
TakesLine line text (Some rest) = lines_of text ≡ ended line ∷ lines_of rest.now

abbrev pub TakesRounds : List ℕ → Result (ℕ × Bor (List ℕ)) Refusal → Type 0
TakesRounds text (Ok x) = lines_of text ≡ ended (rounds_line x.0) ∷ lines_of x.1.now
TakesRounds text (Err Form) = LacksRounds (lines_of text)
TakesRounds text (Err Memory) = Unit {0}

-- the number of 32 bits that a line's end is read as
abbrev pub ReadsLetter : List ℕ → Option ℕ → Type 0
ReadsLetter bytes None = (n : ℕ) → n < 2 ^ 32 → bytes ≢ decimal n
ReadsLetter bytes (Some n) = (n < 2 ^ 32) × (bytes ≡ decimal n)

-- the first of the lines is that of no coarse letter
abbrev pub LacksCoarse : List (List ℕ) → Type 0
LacksCoarse [] = Unit {0}
LacksCoarse (l ∷ ls) = NoCoarseLine l

-- the lines begin with that of a coarse letter, and the others are those of the rest; or they do not
abbrev pub TakesCoarse : List ℕ → Option (ℕ × Bor (List ℕ)) → Type 0
TakesCoarse text None = LacksCoarse (lines_of text)
TakesCoarse text (Some x) = (x.0 < 2 ^ 32) × (lines_of text ≡ ended (coarse_line x.0) ∷ lines_of x.1.now)

-- the lines of coarse letters
abbrev pub coarse_lines : List ℕ → List (List ℕ)
coarse_lines letters = map ended (map coarse_line letters)

-- The lines are those of these coarse letters and those of the rest, which has no more of them; the letters and the rest have no more
-- members than the text.
pub record TakesFront (text letters rest : List ℕ) : Type 0 where
  pub lines : lines_of text ≡ coarse_lines letters ++ lines_of rest
  pub short : AreShort letters
  pub last : LacksCoarse (lines_of rest)
  pub within : length letters + length rest ≤ length text

-- the first line that cannot stand there, where that is the fault
abbrev pub IsSyntaxAt : List ℕ → ProofFault → Type 0
IsSyntaxAt text (faults.Syntax line) = FirstWrongOfText (lines_of text) line
IsSyntaxAt text faults.Memory = Unit {0}

-- it is this annotation with so many rounds and these coarse letters, or memory ran out
abbrev pub IsAnswer : ℕ → List ℕ → Content → Result (ℕ × Vec ℕ Global × Content) ProofFault → Type 0
IsAnswer rounds coarse a (Ok x) = (x.0 ≡ rounds) × (x.1.items ≡ coarse) × (x.2 ≡ a)
IsAnswer rounds coarse a (Err e) = e ≡ faults.Memory

-- the lines are these, and behind them those of that annotation
pub record HasForm (text : List ℕ) (front : List (List ℕ)) (d : Draft) : Type 0 where
  pub rest : List ℕ
  pub lines : lines_of text ≡ front ++ lines_of rest
  pub items : Completes no_content (lines_of rest) (content_of d)

-- the first line that cannot stand there, by what says which it is, where that is the fault
abbrev pub IsWrongAt : (ℕ → Type 0) → ProofFault → Type 0
IsWrongAt wrong (faults.Syntax line) = wrong line
IsWrongAt wrong faults.Memory = Unit {0}

-- what is read behind `annotation 2`: lines of coarse letters, one at least, and behind them those of an annotation
abbrev pub ReadsCoarse : List ℕ → Result (Vec ℕ Global × Draft) ProofFault → Type 0
ReadsCoarse text (Ok x) = AreShort x.0.items × (x.0.items ≢ []) × HasForm text (coarse_lines x.0.items) x.1
ReadsCoarse text (Err e) = IsWrongAt (WrongBehindForm (lines_of text)) e

-- what is read behind the line of the rounds
abbrev pub ReadsForm : List ℕ → Result (Vec ℕ Global × Draft) ProofFault → Type 0
ReadsForm text (Ok x) = AreShort x.0.items × HasForm text (map ended (form_lines x.0.items)) x.1
ReadsForm text (Err e) = IsWrongAt (WrongBehindRounds (lines_of text)) e

-- a header with so many rounds and these coarse letters, and behind it the lines of that annotation; or the first line that cannot stand there
abbrev pub ReadsText : List ℕ → Result (ℕ × Vec ℕ Global × Draft) ProofFault → Type 0
ReadsText text (Ok x) =
    AreShort x.1.items × HasForm text (ended (codes "safe") ∷ (ended (rounds_line x.0) ∷ map ended (form_lines x.1.items))) x.2
ReadsText text (Err e) = IsSyntaxAt text e
