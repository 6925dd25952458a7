-- The rule of the cell, which holds between any two steps.
use Rattle.std.specs.Prelude.{◌≡◌, ℕ, zero, suc, ◌<◌, List, [], ◌∷◌, length, Option, Some}
use mathlib.Core.Option as maybe
use lib.ListN.{get_elem?}
use Rattle.nwa_base.specs.Automata.{Automaton}
use Rattle.race_core.specs.declared.ends.End.{End}
use Rattle.race_core.specs.declared.ends.EndKind.{EndKind}
use Rattle.race_core.specs.declared.events.Entry.{Entry}
use Rattle.race_core.specs.Ends.{kind_in}
use Rattle.race_core.specs.Races.{Race}
use Rattle.atomic_table.specs.Table.{State}
use Rattle.version_cell.specs.declared.board.Held.{Held}
use Rattle.version_cell.specs.declared.board.Sight.{Sight}
use Rattle.version_cell.specs.Counts.{total, times, once_below, count, Begins}
use Rattle.version_cell.specs.Views.{nobody}

module _ {E : Type 0} (program : Automaton) (limit all : ℕ) where
  -- What a live view says of the history and the end: what it has seen begins the history, a kind of end that it has seen is
  -- that of the end, and it has then seen the whole history, its end is the end, and a holder names history and end.
  pub record IsLive (history : List (Entry E)) (end : Option End) (v : Sight E) : Type 0 where
    pub program_is : v.program ≡ program
    pub limit_is : v.limit ≡ limit
    pub total_is : v.total ≡ all
    pub seen : Begins v.seen history
    pub ended : (k : EndKind) → v.ended ≡ Some k → (kind_in end ≡ Some k) × (v.seen ≡ history)
    pub finish : (e : End) → v.finish ≡ Some e → end ≡ Some e
    pub below : (p : ℕ) → 0 < times p v.own → p < length v.seen
    pub held : (h : Held E) → v.held ≡ Some h → (h.history ≡ history) × (h.end ≡ end)
    pub told : Begins v.told v.seen
    pub told_ended : (k : EndKind) → v.told_ended ≡ Some k → (v.told ≡ v.seen) × (v.ended ≡ Some k)

  -- a view is spent, or it is live
  pub record Fits (history : List (Entry E)) (end : Option End) (v : Sight E) : Type 0 where
    pub spent : v.shares ≡ 0 → v ≡ nobody
    pub live : 0 < v.shares → IsLive history end v

  -- Each view fits, the shares add up, each place of the history is an own place of one view, once, an end that is set is the
  -- end of one view, and there are as many holders as the turn says.
  pub record Views (history : List (Entry E)) (end : Option End) (turn : ℕ) (views : List (Sight E)) : Type 0 where
    pub each : (i : ℕ) (v : Sight E) → get_elem? views i ≡ maybe.some v → Fits history end v
    pub shares : total (λ v. v.shares) views ≡ all
    pub own : (p : ℕ) → total (λ v. times p v.own) views ≡ once_below p (length history)
    pub ends : total (λ v. count v.finish) views ≡ count end
    pub holders : total (λ v. count v.held) views ≡ turn

  -- the state of this program and limit, with this history and end
  pub record IsAt (history : List (Entry E)) (end : Option End) (c : Race E) : Type 0 where
    pub program_is : c.program ≡ program
    pub limit_is : c.limit ≡ limit
    pub history_is : c.history ≡ history
    pub end_is : c.end ≡ end

  -- While the turn is free the slot is home with the state. While it is held the slot is out.
  abbrev pub Slot : ℕ → List (Entry E) → Option End → List (maybe.Option (Option (Race E))) → Type 0
  Slot zero history end homes = (c : Race E) × (homes ≡ maybe.some (Some c) ∷ []) × IsAt history end c
  Slot (suc zero) history end homes = homes ≡ maybe.none ∷ []
  Slot (suc (suc n)) history end homes = ⊥

  -- The rule: word 0 is the turn, word 1 the version, which is the length of the history.
  pub record RuleIsKept (s : State (Option (Race E)) (Sight E)) : Type 0 where
    pub history : List (Entry E)
    pub end : Option End
    pub turn : ℕ
    pub words : s.words ≡ turn ∷ length history ∷ []
    pub views : Views history end turn s.views
    pub slot : Slot turn history end s.homes
