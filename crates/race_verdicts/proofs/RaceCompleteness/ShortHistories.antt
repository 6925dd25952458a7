-- The words of a legal history and a kept word differ, so that a list of all words is longer than the history.
use Rattle.std.proofs.Common.{◌≡◌, ℕ, suc, ◌<◌, ◌≤◌, ◌⊎◌, inl, inr, List, [], ◌∷◌, ◌++◌, length, Option, Some, sym, subst, refl, append_assoc, append-nil, arith}
use Rattle.std.specs.Prelude.{IfSome}
use Rattle.nwa_base.specs.declared.letters.Letter.{Letter}
use Rattle.nwa_base.specs.Members.{Member}
use Rattle.nwa_base.specs.Automata.{Automaton}
use Rattle.nwa_base.specs.Acceptance.{Accepts}
use Rattle.typed_tree.specs.TypedTree.{TypedProgram}
use Rattle.lowered_graph.specs.Lowered.{lowered}
use Rattle.race_core.specs.declared.ends.Cause.TheVariants.{Rounds}
use Rattle.race_core.specs.declared.ends.End.{End}
use Rattle.race_core.specs.declared.ends.End.TheVariants.{Unknown}
use Rattle.race_core.specs.declared.events.Entry.{Entry}
use Rattle.race_core.specs.Histories.{Removed, IsLegalAfter, IsLegal}
use Rattle.race_core.specs.Races.{Race}
use Rattle.itp_automaton.specs.Certified.{Certificate}
use Rattle.race_rounds.specs.declared.limits.Limits.{Limits}
use Rattle.race_rounds.specs.Ends.{WordIsKept, EndMeets, no_word, one_word}
use Rattle.race_rounds.specs.Rounds.{automaton_in, IsRaceOf}
use Rattle.race_verdicts.specs.RaceCompleteness.Words.{HasWordsAmong}

-- ---- one member less

-- the list without the member at this place
abbrev without : {X : Type 0} (x : X) (xs : List X) → Member xs x → List X
without x [] m = absurd m
without x (y ∷ ys) (inl e) = ys
without x (y ∷ ys) (inr m) = y ∷ without x ys m

one_less : {X : Type 0} (x : X) (xs : List X) (m : Member xs x) → length xs ≡ suc (length (without x xs m))
one_less x [] m = absurd m
one_less x (y ∷ ys) (inl e) = refl
one_less x (y ∷ ys) (inr m) = let e = one_less x ys m in omega arith

others_stay : {X : Type 0} (x z : X) (xs : List X) (m : Member xs x) → Member xs z → (z ≡ x → ⊥) → Member (without x xs m) z
others_stay x z [] m n d = absurd m
others_stay x z (y ∷ ys) (inl e) (inl f) d = absurd (d (cc))
others_stay x z (y ∷ ys) (inl e) (inr n) d = n
others_stay x z (y ∷ ys) (inr m) (inl f) d = inl f
others_stay x z (y ∷ ys) (inr m) (inr n) d = inr (others_stay x z ys m n d)

some_member : {X : Type 0} (x : X) (xs : List X) → Member xs x → 0 < length xs
some_member x [] m = absurd m
some_member x (y ∷ ys) m = omega arith

-- ---- histories

module _ {E : Type 0} (automaton : E → Automaton) where
  removed_front : (h : List (Entry E)) (e : Entry E) (w : List Letter) → Removed automaton h w → Removed automaton (h ++ e ∷ []) w
  removed_front [] e w r = absurd r
  removed_front (x ∷ h) e w (inl a) = inl a
  removed_front (x ∷ h) e w (inr r) = inr (removed_front h e w r)

  removed_by_last : (h : List (Entry E)) (e : Entry E) (w : List Letter) → Accepts (automaton e.evidence) w → Removed automaton (h ++ e ∷ []) w
  removed_by_last [] e w a = inl a
  removed_by_last (x ∷ h) e w a = inr (removed_by_last h e w a)

  -- of the words that are left after the first entries
  abbrev LeftAmong : Automaton → List (Entry E) → List (List Letter) → Type 0
  LeftAmong program before ws = (w : List Letter) → Accepts program w → (Removed automaton before w → ⊥) → Member ws w

  left_after : (program : Automaton) (before : List (Entry E)) (e : Entry E) (ws : List (List Letter)) (m : Member ws e.word) → Accepts (automaton e.evidence) e.word →
      LeftAmong program before ws → LeftAmong program (before ++ e ∷ []) (without e.word ws m)
  left_after program before e ws m own f = λ w a n.
      others_stay e.word w ws m (f w a (λ r. n (removed_front before e w r)))
      (λ is. n (removed_by_last before e w (subst (λ (v : List Letter). Accepts (automaton e.evidence) v) (sym is) own)))

  module _ (feasible : E → List Letter → Type 0) where
    shorter_after : (program : Automaton) (before h : List (Entry E)) (w : List Letter) (ws : List (List Letter)) → IsLegalAfter automaton feasible program before h →
        Accepts program w → (Removed automaton (before ++ h) w → ⊥) → LeftAmong program before ws → length h < length ws
    shorter_after program before [] w ws l a n f =
        some_member w ws (f w a (λ r. n (subst (λ (k : List (Entry E)). Removed automaton k w) (sym (append-nil before)) r)))
    shorter_after program before (e ∷ h) w ws l a n f =
        let m : Member ws e.word = f e.word l.0.error l.0.fresh in
        let rest = shorter_after program (before ++ e ∷ []) h w (without e.word ws m) l.2 a
        (λ r. n (subst (λ (k : List (Entry E)). Removed automaton k w) (append_assoc before (e ∷ []) h) r)) (left_after program before e ws m l.0.own f) in
        let k = one_less e.word ws m in
        omega arith

    pub shorter : (program : Automaton) (h : List (Entry E)) (w : List Letter) (ws : List (List Letter)) → IsLegal automaton feasible program h → WordIsKept automaton program h w →
        HasWordsAmong program ws → length h < length ws
    shorter program h w ws l k f = shorter_after program [] h w ws l k.error k.left (λ v a n. f v a)

    pub never_over : (t : TypedProgram) (limits : Limits) (h : List (Entry E)) (w : List Letter) (ws : List (List Letter)) → HasWordsAmong (lowered t).automaton ws → length ws ≤ limits.rounds →
        IsLegal automaton feasible (lowered t).automaton h → EndMeets automaton t limits h (Unknown Rounds w) → ⊥
    never_over t limits h w ws f le l (no_word e n) = absurd (let no : ⊥ = cc in no)
    never_over t limits h w ws f le l (one_word v k s) =
        let lt = shorter (lowered t).automaton h v ws l k f in
        let over : limits.rounds ≤ length h = s.1.0 in
        let no : ⊥ = omega arith in no

-- ---- the rounds that are over

over : (t : TypedProgram) (limits : Limits) (h : List (Entry Certificate)) (w : List Letter) → EndMeets automaton_in t limits h (Unknown Rounds w) → limits.rounds ≤ length h
over t limits h w (no_word e n) = absurd (let no : ⊥ = cc in no)
over t limits h w (one_word v k s) = s.1.0

pub all_used : (t : TypedProgram) (given : Option (Entry Certificate)) (limits : Limits) (r : Race Certificate) (w : List Letter) → IsRaceOf t given limits r →
    r.end ≡ Some (Unknown Rounds w) → length r.history ≡ limits.rounds
all_used t given limits r w race e =
    let least = over t limits r.history w (subst (λ (x : Option End). IfSome x (EndMeets automaton_in t limits r.history)) e race.end) in
    let most = race.within in
    omega (arith, least, most)
