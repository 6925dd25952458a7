-- What a ranking says: states obey no more turns of a loop than its rank allows, so none obey it for ever.
use Rattle.std.proofs.Common.{◌≡◌, ◌∙◌, ℕ, zero, suc, ℤ, pos, ◌+ℤ◌, ◌-ℤ◌, ◌*ℤ◌, neg_ℤ, ◌≤ℤ◌, ◌<ℤ◌, List, [], ◌∷◌, ◌++◌, length, refl, sym, ap, subst, arith}
use Rattle.std.specs.Prelude.{map, slice_index, unsigned_abs}
use Rattle.std.specs.List.{AllByRecursion}
use Rattle.std.specs.Int.{int_max}
use Rattle.std.proofs.lemmas.Int.{ints, clamps, by_lt_z}
use Rattle.math_facts.specs.Terms.{dot, opposite, IsBelow}
use Rattle.math_facts.proofs.TermLaws.{dot-append, dot-opposite}
use Rattle.lin_rows.specs.declared.types.RowKind.TheVariants.{Le}
use Rattle.lin_rows.specs.Rows.{LinearRow, Holds}
use Rattle.lin_rows.specs.Points.{point_of}
use Rattle.lin_rows.specs.Tightening.{content, tightened}
use Rattle.lin_rows.proofs.HoldsLaws.{holds-row_of}
use Rattle.lin_rows.proofs.TighteningLaw.{holds_tightened_by}
use Rattle.farkas_check.specs.Nodes.{PlainNode}
use Rattle.farkas_check.proofs.Sound.{none_met}
use Rattle.letter_acts.specs.Acts.{Alphabet, frame_of}
use Rattle.letter_acts.specs.Invariant.{Graph, IsGraph, alphabet_of}
use Rattle.path_rows.proofs.ListLemmas.{all_joined, read_at, length-columns_from}
use Rattle.rank_lasso.specs.LassoTurns.Turns.{AreInside, Turn, turn_of, LeadsAlong, IsSolvedTurn}
use Rattle.rank_lasso.specs.LassoRanks.Lassos.{PlainLasso, AreOfEntry, entry_proc, loop_turn, whole_turn}
use Rattle.rank_lasso.specs.LassoTurns.Claims.{at_versions, unfallen, unbounded, turn_goal, RefutesTurn, turn_with}
use Rattle.rank_lasso.specs.LassoRanks.Ranks.{PlainRanking, ranked_by, excluded_by, IsRankingOver, Ranks, rank_of, times, AreFew, HasFewTurns, GoesForEver, LassoEnds}
use Rattle.rank_lasso.proofs.LassoTurns.WalkLaws.{leads_joined, leads_split}
use Rattle.rank_lasso.proofs.LassoTurns.TurnLaws.{turns_are_solved}
use Rattle.rank_lasso.proofs.LassoTurns.KeptLaws.{turn_keeps}

-- no whole point meets the rows
pub record HaveNoPoint (rows : List LinearRow) : Type 0 where
  pub none : (point : ℕ → ℤ) → AllByRecursion (Holds point) rows → ⊥

-- ---- what is refuted has no point

tightened_hold : (point : ℕ → ℤ) (rows : List LinearRow) → AllByRecursion (Holds point) rows → AllByRecursion (Holds point) (map tightened rows)
tightened_hold point [] h = tt
tightened_hold point (r ∷ rows) h = ((holds_tightened_by point r (content r.terms) refl).0 h.0, tightened_hold point rows h.1)

pub refuted_turn : (t : Turn) (nodes : List PlainNode) → RefutesTurn t nodes → HaveNoPoint t.rows
refuted_turn t nodes h = record {
  none = λ point m. (none_met point nodes (turn_goal t ∷ []) h).0 (record { rows = tightened_hold point t.rows m; groups = tt });
}

-- ---- the rank before and after a turn

-- terms over the versions have the value that the terms have where the versions are read
pub dot-at_versions : (point : ℕ → ℤ) (versions : List ℕ) (terms : List (ℕ × ℤ)) → IsBelow (length versions) terms →
    dot point (at_versions versions terms) ≡ dot (point_of (map point versions)) terms
dot-at_versions point versions [] b = refl
dot-at_versions point versions (t ∷ terms) b =
    let e : dot point (at_versions versions terms) ≡ dot (point_of (map point versions)) terms = dot-at_versions point versions terms b.1 in
    let f : point_of (map point versions) t.0 ≡ point (slice_index versions t.0) = read_at point versions t.0 b.0 in
    let h : t.1 *ℤ point (slice_index versions t.0) ≡ t.1 *ℤ point_of (map point versions) t.0 = ap (λ (z : ℤ). t.1 *ℤ z) (sym f) in
    omega (arith, ints)

-- where the terms name columns of the turn before it and after it
record IsOver (t : Turn) (terms : List (ℕ × ℤ)) : Type 0 where
  before : IsBelow (length t.before) terms
  after : IsBelow (length t.after) terms

-- ---- one turn

-- the rank is at least the bound, and falls
record Falls (terms : List (ℕ × ℤ)) (b : ℤ) (s u : List ℤ) : Type 0 where
  bounded : b ≤ℤ rank_of terms s
  falls : (rank_of terms u +ℤ pos 1) ≤ℤ rank_of terms s

turn_falls : (t : Turn) (terms : List (ℕ × ℤ)) (b : ℤ) (s u : List ℤ) → IsOver t terms → HaveNoPoint (turn_with t (unfallen t terms)).rows →
    HaveNoPoint (turn_with t (unbounded t terms b)).rows → IsSolvedTurn t s u → Falls terms b s u
turn_falls t terms b s u o f g h =
    let point : ℕ → ℤ = h.point in
    let before : dot point (at_versions t.before terms) ≡ rank_of terms s =
    dot-at_versions point t.before terms o.before ∙ ap (λ (z : List ℤ). dot (point_of z) terms) (sym h.before) in
    let after : dot point (at_versions t.after terms) ≡ rank_of terms u =
    dot-at_versions point t.after terms o.after ∙ ap (λ (z : List ℤ). dot (point_of z) terms) (sym h.after) in
    let both : dot point (at_versions t.before terms ++ opposite (at_versions t.after terms)) ≡
    dot point (at_versions t.before terms) +ℤ dot point (opposite (at_versions t.after terms)) =
    dot-append point (at_versions t.before terms) (opposite (at_versions t.after terms)) in
    let other : dot point (opposite (at_versions t.after terms)) ≡ neg_ℤ (dot point (at_versions t.after terms)) = dot-opposite point (at_versions t.after terms) in
    record {
      bounded =
          by_lt_z (rank_of terms s) b
          (λ (l : rank_of terms s <ℤ b).
          absurd (g.none point ((all_joined (Holds point) t.rows (unbounded t terms b ∷ [])).1
          (h.meets, ((holds-row_of point (at_versions t.before terms) Le (b -ℤ pos 1)).1 (omega (arith, ints)), tt)))))
          (λ (l : b ≤ℤ rank_of terms s). l);
      falls =
          by_lt_z (rank_of terms u) (rank_of terms s)
          (λ (l : rank_of terms u <ℤ rank_of terms s). omega (arith, ints))
          (λ (l : rank_of terms s ≤ℤ rank_of terms u).
          absurd (f.none point ((all_joined (Holds point) t.rows (unfallen t terms ∷ [])).1
          (h.meets, ((holds-row_of point (at_versions t.before terms ++ opposite (at_versions t.after terms)) Le (pos 0)).1 (omega (arith, ints)), tt)))));
    }

-- ---- many turns

module _ (g : Graph) (ok : IsGraph g) (p : ℕ) (loop : List ℕ) (terms : List (ℕ × ℤ)) (b : ℤ) (over : IsOver (turn_of (alphabet_of g) p loop) terms)
    (falls : HaveNoPoint (turn_with (turn_of (alphabet_of g) p loop) (unfallen (turn_of (alphabet_of g) p loop) terms)).rows)
    (bounded : HaveNoPoint (turn_with (turn_of (alphabet_of g) p loop) (unbounded (turn_of (alphabet_of g) p loop) terms b)).rows) where
  few_from : (k : ℕ) (s u : List ℤ) → LeadsAlong (alphabet_of g) p (times k loop) s u → AreFew terms b s k
  few_from zero s u h = omega (arith, ints, clamps)
  few_from (suc k) s u h =
      let parts = leads_split (alphabet_of g) p loop (times k loop) s u h in
      let one : Falls terms b s parts.middle =
      turn_falls (turn_of (alphabet_of g) p loop) terms b s parts.middle over falls bounded (turns_are_solved g ok p loop s parts.middle parts.first) in
      let rest : AreFew terms b parts.middle k = few_from k parts.middle u parts.second in
      omega (arith, ints, clamps)

-- so many turns of a loop that goes on
turns_on : (al : Alphabet) (p : ℕ) (loop : List ℕ) (states : ℕ → List ℤ) → ((n : ℕ) → LeadsAlong al p loop (states n) (states (suc n))) →
    (k : ℕ) → LeadsAlong al p (times k loop) (states 0) (states k)
turns_on al p loop states h zero = record {
  more = [];
  obey = record { begins = (h 0).obey.begins; along = tt };
  ends = refl;
}
turns_on al p loop states h (suc k) =
    leads_joined al p loop (times k loop) (states 0) (states 1) (states (suc k)) (h 0) (turns_on al p loop (λ n. states (suc n)) (λ n. h (suc n)) k)

-- a number of turns that the rank does not allow
too_many : (terms : List (ℕ × ℤ)) (b : ℤ) (s : List ℤ) → AreFew terms b s (suc (unsigned_abs ((rank_of terms s -ℤ b) +ℤ pos 1))) → ⊥
too_many terms b s h = few_ends ((rank_of terms s -ℤ b) +ℤ pos 1) h
  where
    few_ends : (z : ℤ) → pos (suc (unsigned_abs z)) ≤ℤ int_max (pos 0) z → ⊥
    few_ends z h = omega (arith, ints, clamps)

-- ---- what a ranking says of a lasso of the graph

-- a rank over the frame is over the turn
rank_over : (g : Graph) → IsGraph g → (p : ℕ) (ns : List ℕ) → AreInside (alphabet_of g) p ns → (terms : List (ℕ × ℤ)) → IsBelow (length (frame_of (alphabet_of g) p)) terms →
    IsOver (turn_of (alphabet_of g) p ns) terms
rank_over g ok p ns i terms b =
    let k = turn_keeps g ok p ns i in
    let width : ℕ = length (frame_of (alphabet_of g) p) in
    record {
      before = subst (λ (n : ℕ). IsBelow n terms) (sym (length-columns_from 0 width)) b;
      after = subst (λ (n : ℕ). IsBelow n terms) (sym k.long) b;
    }

-- states obey at most so many turns of a loop as its rank in the first of them allows
pub ranked_turns_are_few : (g : Graph) → IsGraph g → (p : ℕ) (loop : List ℕ) → AreInside (alphabet_of g) p loop → (terms : List (ℕ × ℤ)) (b : ℤ) →
    IsBelow (length (frame_of (alphabet_of g) p)) terms →
    HaveNoPoint (turn_with (turn_of (alphabet_of g) p loop) (unfallen (turn_of (alphabet_of g) p loop) terms)).rows →
    HaveNoPoint (turn_with (turn_of (alphabet_of g) p loop) (unbounded (turn_of (alphabet_of g) p loop) terms b)).rows →
    (k : ℕ) (s u : List ℤ) → LeadsAlong (alphabet_of g) p (times k loop) s u → AreFew terms b s k
ranked_turns_are_few g ok p loop i terms b over f h k s u w = few_from g ok p loop terms b (rank_over g ok p loop i terms over) f h k s u w

-- none obey a loop for ever whose turns are few
pub few_turns_end : (al : Alphabet) (p : ℕ) (stem loop : List ℕ) (terms : List (ℕ × ℤ)) (b : ℤ) →
    ((k : ℕ) (s u : List ℤ) → LeadsAlong al p (times k loop) s u → AreFew terms b s k) → GoesForEver al p stem loop → ⊥
few_turns_end al p stem loop terms b f w =
    let k : ℕ = suc (unsigned_abs ((rank_of terms (w.states 0) -ℤ b) +ℤ pos 1)) in
    too_many terms b (w.states 0) (f k (w.states 0) (w.states k) (turns_on al p loop w.states w.turns k))

-- nor where none obey the stem and one turn
pub excluded_lassos_end : (al : Alphabet) (p : ℕ) (stem loop : List ℕ) → ((s u : List ℤ) → LeadsAlong al p (stem ++ loop) s u → ⊥) → GoesForEver al p stem loop → ⊥
excluded_lassos_end al p stem loop f w = f w.start (w.states 1) (leads_joined al p stem loop w.start (w.states 0) (w.states 1) w.enters (w.turns 0))

-- none obey letters whose turn has no point
pub unsolved_turns_lead_nowhere : (g : Graph) → IsGraph g → (p : ℕ) (ns : List ℕ) → HaveNoPoint (turn_of (alphabet_of g) p ns).rows →
    (s u : List ℤ) → LeadsAlong (alphabet_of g) p ns s u → ⊥
unsolved_turns_lead_nowhere g ok p ns h s u w = let k = turns_are_solved g ok p ns s u w in h.none k.point k.meets

-- a ranking that holds says that turns are few
pub ranks_say_few : (g : Graph) → IsGraph g → (l : PlainLasso) (r : PlainRanking) → AreOfEntry g l.loop → IsRankingOver g r → Ranks g l r → HasFewTurns g l r
ranks_say_few g ok l (ranked_by terms b falls bounded) i o h =
    ranked_turns_are_few g ok (entry_proc g) l.loop i terms b o.form.within
    (refuted_turn (turn_with (loop_turn g l) (unfallen (loop_turn g l) terms)) falls h.0.refutes)
    (refuted_turn (turn_with (loop_turn g l) (unbounded (loop_turn g l) terms b)) bounded h.1.refutes)
ranks_say_few g ok l (excluded_by nodes) i o h =
    unsolved_turns_lead_nowhere g ok (entry_proc g) (l.stem ++ l.loop) (refuted_turn (whole_turn g l) nodes h)

-- and that no states obey the lasso for ever
pub few_turns_say_end : (g : Graph) (l : PlainLasso) (r : PlainRanking) → HasFewTurns g l r → LassoEnds g l
few_turns_say_end g l (ranked_by terms b falls bounded) f = few_turns_end (alphabet_of g) (entry_proc g) l.stem l.loop terms b f
few_turns_say_end g l (excluded_by nodes) f = excluded_lassos_end (alphabet_of g) (entry_proc g) l.stem l.loop f
