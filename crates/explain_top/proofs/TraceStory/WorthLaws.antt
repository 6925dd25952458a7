-- What `unknown` prints is the text of a trace, and the letters of a word are told by their numbers.
use Rattle.std.proofs.Common.{◌≡◌, ◌∙◌, ℕ, Bool, true, false, List, [], ◌∷◌, ◌++◌, codes, if◌then◌else◌, Option, None, Some, IsSome, refl, sym, ap, append_assoc, append-nil}
use Rattle.std.specs.Prelude.{slice_get}
use Rattle.std.specs.List.{flat_map}
use Rattle.std.specs.Option.{option_map, option_and_then}
use Rattle.std.specs.Fmt.{decimal}
use Rattle.std.proofs.lemmas.Bool.{false≢true}
use Rattle.nwa_base.specs.declared.letters.Letter.{Letter}
use Rattle.nwa_base.specs.Letters.{same_letter}
use Rattle.nwa_base.proofs.LetterLemmas.{same_letter-true}
use Rattle.letter_acts.specs.Acts.{PlainAct, letter_of, named_act}
use Rattle.letter_acts.specs.Invariant.{Graph}
use Rattle.race_core.specs.declared.ends.Cause.TheVariants.{Rounds, Whole, Number, Product}
use Rattle.race_verdicts.specs.Texts.{letter_piece}
use Rattle.trace_replay.specs.FailureText.{numbered_line}
use Rattle.rank_lasso.specs.LassoText.{letters_text, letters_line}
use Rattle.explain_top.specs.TraceStory.TraceStory.{letters_of}
use Rattle.explain_top.specs.TraceStory.TraceWorth.{numbers_of, UnknownTextsAreTraces, LettersAreTheirNumbers}

-- ---- texts

pieces : (w : List Letter) → letters_text (numbers_of w) ≡ flat_map letter_piece w
pieces [] = refl
pieces (a ∷ w) = ap (λ (l : List ℕ). (32 ∷ decimal a.id) ++ l) (pieces w)

-- the lines behind the first
behind : (rounds : ℕ) (w : List Letter) → numbered_line (codes "rounds ") rounds ++ (letters_line (codes "trace") (numbers_of w) ++ []) ≡ codes "rounds " ++ (decimal rounds ++ (codes "\ntrace" ++ (flat_map letter_piece w ++ 10 ∷ [])))
behind rounds w =
    ap (λ (l : List ℕ). numbered_line (codes "rounds ") rounds ++ l) (append-nil (letters_line (codes "trace") (numbers_of w)) ∙ ap (λ (l : List ℕ). codes "trace" ++ (l ++ 10 ∷ [])) (pieces w))
    ∙ ap (λ (l : List ℕ). codes "rounds " ++ l) (append_assoc (decimal rounds) (10 ∷ []) (codes "trace" ++ (flat_map letter_piece w ++ 10 ∷ [])))

pub unknown_is : UnknownTextsAreTraces
unknown_is Rounds rounds w = sym (ap (λ (l : List ℕ). codes "unknown rounds\n" ++ l) (behind rounds w))
unknown_is Whole rounds w = sym (ap (λ (l : List ℕ). codes "unknown whole\n" ++ l) (behind rounds w))
unknown_is Number rounds w = sym (ap (λ (l : List ℕ). codes "unknown number\n" ++ l) (behind rounds w))
unknown_is Product rounds w = sym (ap (λ (l : List ℕ). codes "unknown product\n" ++ l) (behind rounds w))

-- ---- letters

named_letter : (g : Graph) (a : Letter) (ns : List ℕ) (w : List Letter) → letters_of g ns ≡ Some w → (o : Option PlainAct) → IsSome (named_act a o) →
    option_and_then (λ act. option_map (λ v. letter_of a.id act ∷ v) (letters_of g ns)) o ≡ Some (a ∷ w)
named_letter g a ns w e None h = absurd (false≢true h)
named_letter g a ns w e (Some act) h = by_test (same_letter a (letter_of a.id act)) refl h
  where
    by_test : (t : Bool) → same_letter a (letter_of a.id act) ≡ t → IsSome (if t then Some act else None) → option_map (λ v. letter_of a.id act ∷ v) (letters_of g ns) ≡ Some (a ∷ w)
    by_test true f k = ap (option_map (λ v. letter_of a.id act ∷ v)) e ∙ ap (λ (b : Letter). Some (b ∷ w)) (sym (same_letter-true a (letter_of a.id act) f))
    by_test false f k = absurd (false≢true k)

pub letters_told : LettersAreTheirNumbers
letters_told g [] h = refl
letters_told g (a ∷ w) h = named_letter g a (numbers_of w) w (letters_told g w h.1) (slice_get g.acts a.id) h.0
