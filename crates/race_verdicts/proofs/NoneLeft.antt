-- Where a race ended without a word, its automata accept all error words.
use Rattle.std.proofs.Common.{◌≡◌, inl, inr, List, [], ◌∷◌, map, Option, None, Some, refl, sym, ap, subst, ◌∙◌}
use Rattle.std.specs.Prelude.{IfSome}
use Rattle.std.specs.List.{AllByRecursion}
use Rattle.std.specs.Borrow.{Bor}
use Rattle.nwa_base.specs.declared.letters.Letter.{Letter}
use Rattle.nwa_base.specs.Automata.{Automaton}
use Rattle.nwa_base.specs.Acceptance.{Accepts}
use Rattle.nwa_base.specs.Members.{Member}
use Rattle.letter_acts.specs.Invariant.{Graph, alphabet_of}
use Rattle.typed_tree.specs.TypedTree.{TypedProgram}
use Rattle.lowered_graph.specs.Lowered.{lowered}
use Rattle.race_core.specs.declared.ends.End.{End}
use Rattle.race_core.specs.declared.ends.End.TheVariants.{Safe}
use Rattle.race_core.specs.declared.events.Entry.{Entry}
use Rattle.race_core.specs.Histories.{Removed}
use Rattle.race_core.specs.Races.{Race}
use Rattle.itp_automaton.specs.Certified.{Certificate, IsCertified}
use Rattle.proof_build.specs.Unwound.{AreCovering}
use Rattle.race_rounds.specs.declared.limits.Limits.{Limits}
use Rattle.race_rounds.specs.Ends.{WordIsKept, EndMeets, no_word, one_word}
use Rattle.race_rounds.specs.Rounds.{automaton_in, IsOwn, AreOwn, IsRaceOf}
use Rattle.race_verdicts.proofs.Accepted.{IsDecided, accepted_or_not}

abbrev pub evidence : Entry Certificate → Certificate
evidence e = e.evidence

-- ---- some automaton of a history accepts a word, or none does

removed_or_not : (h : List (Entry Certificate)) (w : List Letter) → IsDecided (Removed automaton_in h w)
removed_or_not [] w = inr (λ r. r)
removed_or_not (e ∷ h) w = first e h w (accepted_or_not e.evidence.automaton w) (removed_or_not h w)
  where
    first : (e : Entry Certificate) (h : List (Entry Certificate)) (w : List Letter) → IsDecided (Accepts e.evidence.automaton w) → IsDecided (Removed automaton_in h w) →
        IsDecided (Removed automaton_in (e ∷ h) w)
    first e h w (inl a) rest = inl (inl a)
    first e h w (inr n) (inl r) = inl (inr r)
    first e h w (inr n) (inr none) = inr (λ r. elim r [ inl a ↦ n a | inr r ↦ none r ])

either : (P : Type 0) → IsDecided P → ((P → ⊥) → ⊥) → P
either P (inl p) h = p
either P (inr n) h = absurd (h n)

removing : (h : List (Entry Certificate)) (w : List Letter) → Removed automaton_in h w → (b : Automaton) × Member (map (λ c. c.automaton) (map evidence h)) b × Accepts b w
removing [] w r = absurd r
removing (e ∷ h) w (inl a) = (e.evidence.automaton, inl refl, a)
removing (e ∷ h) w (inr r) = let x = removing h w r in (x.0, inr x.1, x.2)

-- ---- a race that ended so

none_left : (t : TypedProgram) (limits : Limits) (h : List (Entry Certificate)) → EndMeets automaton_in t limits h Safe → (w : List Letter) → WordIsKept automaton_in (lowered t).automaton h w → ⊥
none_left t limits h (no_word e n) w k = n w k
none_left t limits h (one_word v k s) w x = absurd s

abbrev AreCertified : Graph → List Certificate → Type 0
AreCertified g cs = AllByRecursion (IsCertified (alphabet_of g)) cs

all_certified : (t : TypedProgram) (h : List (Entry Certificate)) → AllByRecursion (IsOwn t) h → AreCertified (lowered t) (map evidence h)
all_certified t [] a = tt
all_certified t (e ∷ h) a = (a.0.certified, all_certified t h a.1)

-- the entry that was given is certified, too
certified_with : (t : TypedProgram) (given : Option (Entry Certificate)) (h : List (Entry Certificate)) → AreOwn t given h → AreCertified (lowered t) (map evidence h)
certified_with t None h a = all_certified t h a
certified_with t (Some e) [] a = absurd a
certified_with t (Some e) (x ∷ h) a =
    (subst (λ (y : Entry Certificate). IsCertified (alphabet_of (lowered t)) y.evidence) (sym a.0) a.1.certified, all_certified t h a.2)

pub certified : (g : Graph) (t : TypedProgram) (given : Option (Entry Certificate)) (limits : Limits) (r : Race Certificate) (cs : List Certificate) → g ≡ lowered t →
    IsRaceOf t given limits r → cs ≡ map evidence r.history → AreCertified g cs
certified g t given limits r cs e race s =
    subst (λ (x : Graph). AreCertified x cs) (sym e)
    (subst (λ (x : List Certificate). AreCertified (lowered t) x) (sym s) (certified_with t given r.history race.own))

all_covered : (t : TypedProgram) (given : Option (Entry Certificate)) (limits : Limits) (r : Race Certificate) → IsRaceOf t given limits r → r.end ≡ Some Safe →
    AreCovering (lowered t).automaton (map (λ c. c.automaton) (map evidence r.history))
all_covered t given limits r race end = λ w a.
    let met : EndMeets automaton_in t limits r.history Safe = subst (λ (x : Option End). IfSome x (EndMeets automaton_in t limits r.history)) end race.end in
    removing r.history w (either (Removed automaton_in r.history w) (removed_or_not r.history w) (λ n. none_left t limits r.history met w (record { error = a; left = n })))

automata_are : (xs : List (Bor Certificate)) → map (λ c. c.now.automaton) xs ≡ map (λ c. c.automaton) (map (λ c. c.now) xs)
automata_are [] = refl
automata_are (x ∷ xs) = ap (λ (ys : List Automaton). x.now.automaton ∷ ys) (automata_are xs)

pub covered : (g : Graph) (t : TypedProgram) (given : Option (Entry Certificate)) (limits : Limits) (r : Race Certificate) (xs : List (Bor Certificate)) → g ≡ lowered t →
    IsRaceOf t given limits r → r.end ≡ Some Safe → map (λ c. c.now) xs ≡ map evidence r.history → AreCovering g.automaton (map (λ c. c.now.automaton) xs)
covered g t given limits r xs e race end s =
    subst (λ (x : Graph). AreCovering x.automaton (map (λ c. c.now.automaton) xs)) (sym e)
    (subst (λ (bs : List Automaton). AreCovering (lowered t).automaton bs) (sym (automata_are xs ∙ ap (λ (cs : List Certificate). map (λ c. c.automaton) cs) s))
    (all_covered t given limits r race end))
