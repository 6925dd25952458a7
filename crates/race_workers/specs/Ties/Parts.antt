-- What a worker's pass carries of a race, and what a round makes of it.
use Rattle.std.specs.Prelude.{◌≡◌, ℕ, ◌<◌, ◌≤◌, ◌⊎◌, List, [], ◌∷◌, ◌++◌, length, Option, None, Some, IfSome, IsSome, slice_get}
use Rattle.nwa_base.specs.Automata.{Automaton}
use Rattle.nwa_base.specs.Acceptance.{Accepts}
use Rattle.letter_acts.specs.Invariant.{Graph}
use Rattle.typed_tree.specs.TypedTree.{TypedProgram}
use Rattle.lowered_graph.specs.Lowered.{lowered}
use Rattle.race_core.specs.declared.ends.End.{End}
use Rattle.race_core.specs.declared.events.Entry.{Entry}
use Rattle.race_core.specs.declared.events.Why.{Why}
use Rattle.race_core.specs.declared.events.Why.TheVariants.{Ended, Full, Stale}
use Rattle.race_core.specs.Ends.{kind_of}
use Rattle.race_core.specs.Histories.{Keeps}
use Rattle.itp_automaton.specs.Certified.{Certificate}
use Rattle.race_rounds.specs.declared.limits.Limits.{Limits}
use Rattle.race_rounds.specs.Ends.{WordIsKept, EndMeets}
use Rattle.race_rounds.specs.Rounds.{automaton_in, IsOwn}
use Rattle.version_cell.specs.Counts.{times}
use Rattle.version_cell.specs.Passes.{Cell, Known, IsPassOf, owning, joined, Continues}
use Rattle.race_workers.specs.declared.rounds.Turn.{Turn}
use Rattle.race_workers.specs.declared.rounds.Turn.TheVariants as turns

-- the graph is that of the program, and the cell was opened with its automaton
pub record IsJob (t : TypedProgram) (g : Graph) (l : Limits) (c : Cell) : Type 0 where
  pub lowered : g ≡ lowered t
  pub program : c.program ≡ g.automaton
  pub depth : l.depth ≤ 64

-- each entry that the pass has added is one of the program
abbrev pub OwnsEntries : TypedProgram → Known Certificate → Type 0
OwnsEntries t p = (place : ℕ) → 0 < times place p.own → (e : Entry Certificate) × (slice_get p.seen place ≡ Some e) × IsOwn t e

-- an end that the pass has set is met over the history that it has seen, and it has seen that end
abbrev pub OwnsEnd : TypedProgram → Limits → Known Certificate → Type 0
OwnsEnd t l p = (e : End) → p.finish ≡ Some e → (p.ended ≡ Some (kind_of e)) × EndMeets automaton_in t l p.seen e

-- A pass of the cell with n shares, of which each own entry is one of the program, and an own end is met.
pub record IsPassAt (c : Cell) (t : TypedProgram) (l : Limits) (n : ℕ) (p : Known Certificate) : Type 0 where
  pub of_cell : IsPassOf c p
  pub shares : p.shares ≡ n
  pub entries : OwnsEntries t p
  pub end : OwnsEnd t l p

-- a pass of the cell with n shares that has added nothing
pub record IsFresh (c : Cell) (n : ℕ) (p : Known Certificate) : Type 0 where
  pub of_cell : IsPassOf c p
  pub shares : p.shares ≡ n
  pub entries : p.own ≡ []
  pub end : p.finish ≡ None

-- ---- the first pass

-- the history with which the workers begin: the entry that is given, where one is
abbrev pub opening_history : Option (Entry Certificate) → List (Entry Certificate)
opening_history None = []
opening_history (Some e) = e ∷ []

-- the pass has added the entry that is given, where one is, as the first of the history
abbrev pub opened_with : Option (Entry Certificate) → Known Certificate → Known Certificate
opened_with None p = p
opened_with (Some e) p = owning p [] e 0

-- the pass with one share
abbrev pub with_one_share : Known Certificate → Known Certificate
with_one_share p = record p { shares = 1 }

-- What a pass has become when n workers have run: it gave a share to each, and was joined with the pass that theirs have become.
pub record HasRun (c : Cell) (t : TypedProgram) (l : Limits) (n : ℕ) (p q : Known Certificate) : Type 0 where
  pub workers : Known Certificate
  pub at : IsPassAt c t l n workers
  pub both : q ≡ joined (with_one_share p) workers
  pub first : Continues p q
  pub second : Continues workers q
  pub of_cell : IsPassOf c q

-- ---- reading

-- the version is that of the history which the pass has seen, and the automaton accepts what that history leaves
abbrev pub IsAsSeen : Known Certificate → ℕ → Automaton → Type 0
IsAsSeen p version kept = (version ≡ length p.seen) × Keeps automaton_in p.program p.seen kept

-- ---- rounds

-- what a worker does after a refusal: it stops where the race has ended, lets the entry go where the history is full, and carries a stale one on
abbrev pub turn_after : Why → Entry Certificate → Turn
turn_after (Ended kind) e = turns.Over
turn_after (Full limit) e = turns.Again None
turn_after (Stale version) e = turns.Again (Some e)

-- what is offered of what a worker carries: that very entry, where the automaton accepts its word
abbrev pub IsStillKept : Automaton → Option (Entry Certificate) → Option (Entry Certificate) → Type 0
IsStillKept kept carried (Some e) = (carried ≡ Some e) × Accepts kept e.word
IsStillKept kept carried None = IfSome carried (λ e. Accepts kept e.word → ⊥)

-- the pass has added the entry, behind all others
abbrev pub Adds : Known Certificate → Known Certificate → Entry Certificate → Type 0
Adds p q e = (h : List (Entry Certificate)) × (q.seen ≡ h ++ e ∷ []) × (q.own ≡ p.own ++ length h ∷ [])

-- What comes of an entry that is offered: it is added, or the history is full; or the history has grown in the meantime, and the very entry is
-- carried on; or the pass has seen an end.
abbrev pub Offers : Known Certificate → Known Certificate → Entry Certificate → Turn → Type 0
Offers p q e (turns.Again None) = Adds p q e ⊎ (length q.seen ≡ q.limit)
Offers p q e (turns.Again (Some f)) = (f ≡ e) × (length p.seen < length q.seen)
Offers p q e turns.Over = IsSome q.ended

-- What comes of taking a kept word: an entry of the program for one, to be carried on; or the history has grown in the meantime; or the pass has
-- seen an end.
abbrev pub Seeks : TypedProgram → Known Certificate → Known Certificate → Turn → Type 0
Seeks t p q (turns.Again None) = length p.seen < length q.seen
Seeks t p q (turns.Again (Some e)) = IsOwn t e × WordIsKept automaton_in (lowered t).automaton q.seen e.word
Seeks t p q turns.Over = IsSome q.ended

-- What comes of a round: the entry that is carried is offered, or its word is no longer kept; where there is none, or its word is not kept, a kept
-- word is taken.
abbrev pub Pursues : TypedProgram → Known Certificate → Known Certificate → Option (Entry Certificate) → Turn → Type 0
Pursues t p q None turn = Seeks t p q turn
Pursues t p q (Some e) turn = Offers p q e turn ⊎ ((WordIsKept automaton_in (lowered t).automaton q.seen e.word → ⊥) × Seeks t p q turn)
