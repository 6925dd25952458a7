-- What a pass keeps and shows once its seat has put the state back, as it was or with its end set.
use Rattle.std.proofs.Common.{◌≡◌, ℕ, ◌<◌, ◌≤◌, List, [], length, sym, ap, ◌∙◌, subst, refl, Option, Some}
use Rattle.nwa_base.specs.declared.letters.Letter.{Letter}
use Rattle.nwa_base.specs.Automata.{Automaton}
use Rattle.race_core.specs.declared.ends.End.{End}
use Rattle.race_core.specs.declared.events.Entry.{Entry}
use Rattle.race_core.specs.declared.events.Why.{Why}
use Rattle.race_core.specs.Histories.{IsLegal}
use Rattle.race_core.specs.Races.{Race}
use Rattle.race_core.specs.Steps.{finish_refusal}
use Rattle.atomic_table.specs.Seated.{TableId}
use Rattle.atomic_table.specs.Table.{Me}
use Rattle.version_cell.specs.declared.board.Sight.{Sight}
use Rattle.version_cell.specs.Ties.Plays.{IsIdle, GoesOn, Holds}
use Rattle.version_cell.specs.Views.{holding, informed, with_end}
use Rattle.version_cell.specs.Passes.{Cell, Known, known, IsTable, IsPassOf, IsValid, shown, owning, ending, Names}
use Rattle.version_cell.proofs.Passing.{valid_shown, valid_ending, keeps_pass, shown_is, ending_is, finish_names}

module _ {E : Type 0} where
  -- a state that is as it was won is held
  pub holds_of : (v : Sight E) (b d : Race E) (m : Me (Option (Race E)) (Sight E)) (l : List (ℕ × Option (Race E))) →
      m ≡ (holding v b, l) → 0 < v.shares → GoesOn v b → d ≡ b → Holds m.0 d
  holds_of v b d m l is some g put =
      let P : Me (Option (Race E)) (Sight E) → Type 0 = λ x. Holds x.0 d in
      let Q : Race E → Type 0 = λ x. Holds (holding v b) x in
      subst P (sym is) (subst Q (sym put) (record { shares = some; program = g.program; limit = g.limit; names = refl }))

  -- what the pass shows
  pub shown_by : (z z' : TableId) (v : Sight E) (m : Me (Option (Race E)) (Sight E)) (p : Known E) (b d : Race E) → known z v ≡ p → z' ≡ z →
      m ≡ (informed (holding v b) (Some d), []) → d ≡ b → known z' m.0 ≡ shown p b.history b.end
  shown_by z z' v m p b d view same is put =
      let M : Race E → Type 0 = λ x. m ≡ (informed (holding v b) (Some x), []) in
      shown_is z z' v m b same (subst M put is) ∙ ap (λ (x : Known E). shown x b.history b.end) view

  pub ending_by : (z z' : TableId) (v : Sight E) (m : Me (Option (Race E)) (Sight E)) (p : Known E) (b d : Race E) (end : End) → known z v ≡ p → z' ≡ z →
      m ≡ (with_end (holding v b) (Some d), []) → d ≡ record b { end = Some end } → known z' m.0 ≡ ending p b.history end
  ending_by z z' v m p b d end view same is put =
      ending_is z z' v m b d end same is (ap (λ (x : Race E). x.history) put) (ap (λ (x : Race E). x.end) put)
      ∙ ap (λ (x : Known E). ending x b.history end) view

  -- a pass that shows more is of the same cell
  pub of_cell_shown : (c : Cell) (p q : Known E) (h : List (Entry E)) (e : Option End) → q ≡ shown p h e → IsPassOf c p → IsPassOf c q
  of_cell_shown c p q h e is g =
      let P : Known E → Type 0 = λ x. IsPassOf c x in
      subst P (sym is) (record { cell = g.cell; program = g.program; limit = g.limit; total = g.total })

  pub of_cell_owning : (c : Cell) (p q : Known E) (h : List (Entry E)) (entry : Entry E) (place : ℕ) → q ≡ owning p h entry place → IsPassOf c p → IsPassOf c q
  of_cell_owning c p q h entry place is g =
      let P : Known E → Type 0 = λ x. IsPassOf c x in
      subst P (sym is) (record { cell = g.cell; program = g.program; limit = g.limit; total = g.total })

  pub of_cell_ending : (c : Cell) (p q : Known E) (h : List (Entry E)) (end : End) → q ≡ ending p h end → IsPassOf c p → IsPassOf c q
  of_cell_ending c p q h end is g =
      let P : Known E → Type 0 = λ x. IsPassOf c x in
      subst P (sym is) (record { cell = g.cell; program = g.program; limit = g.limit; total = g.total })

  -- a refusal of an end names what the pass shows
  pub names_shown : (p q : Known E) (h : List (Entry E)) (e : Option End) (base : ℕ) (why : Why) → q ≡ shown p h e →
      finish_refusal e (length h) base ≡ Some why → Names q why
  names_shown p q h e base why is refused =
      let P : Known E → Type 0 = λ x. Names x why in subst P (sym is) (finish_names p h e base why refused)

module _ {E : Type 0} (automaton : E → Automaton) (feasible : E → List Letter → Type 0) where
  -- what a pass keeps
  pub keeps_shown : (z z' : TableId) (v : Sight E) (m : Me (Option (Race E)) (Sight E)) (b d : Race E) → z' ≡ z →
      m ≡ (informed (holding v b) (Some d), []) → d ≡ b → IsTable z → v.limit ≤ 100000 → IsValid automaton feasible (known z v) → GoesOn v b →
      IsLegal automaton feasible d.program d.history →
      IsTable z' × IsIdle m × (m.0.limit ≤ 100000) × IsValid automaton feasible (known z' m.0)
  keeps_shown z z' v m b d same is put table small valid g legal =
      let M : Race E → Type 0 = λ x. m ≡ (informed (holding v b) (Some x), []) in
      let L : Race E → Type 0 = λ x. IsLegal automaton feasible x.program x.history in
      let P : Automaton → Type 0 = λ x. IsLegal automaton feasible x b.history in
      keeps_pass automaton feasible z z' (informed (holding v b) (Some b)) m same (subst M put is) table refl small
      (valid_shown automaton feasible (known z v) b.history b.end valid g.seen (subst P g.program (subst L put legal)))

  pub keeps_ending : (z z' : TableId) (v : Sight E) (m : Me (Option (Race E)) (Sight E)) (b d : Race E) (end : End) → z' ≡ z →
      m ≡ (with_end (holding v b) (Some d), []) → d ≡ record b { end = Some end } → IsTable z → v.limit ≤ 100000 →
      IsValid automaton feasible (known z v) → GoesOn v b → IsLegal automaton feasible d.program d.history →
      IsTable z' × IsIdle m × (m.0.limit ≤ 100000) × IsValid automaton feasible (known z' m.0)
  keeps_ending z z' v m b d end same is put table small valid g legal =
      let M : Race E → Type 0 = λ x. m ≡ (with_end (holding v b) (Some x), []) in
      let L : Race E → Type 0 = λ x. IsLegal automaton feasible x.program x.history in
      let P : Automaton → Type 0 = λ x. IsLegal automaton feasible x b.history in
      keeps_pass automaton feasible z z' (with_end (holding v b) (Some (record b { end = Some end }))) m same (subst M put is) table refl small
      (valid_ending automaton feasible (known z v) b.history end valid g.seen (subst P g.program (subst L put legal)))
