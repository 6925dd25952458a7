-- The first state of a cell's table, and its first pass.
use Rattle.std.proofs.Common.{◌≡◌, ℕ, zero, suc, ◌<◌, ◌≤◌, List, [], ◌∷◌, sym, ap, ◌∙◌, subst, refl, Option, None, Some, arith}
use mathlib.Core.Option as maybe
use mathlib.Core.Option.{some-injective}
use lib.ListN.{get_elem?}
use Rattle.nwa_base.specs.declared.letters.Letter.{Letter}
use Rattle.nwa_base.specs.Automata.{Automaton}
use Rattle.race_core.specs.Races.{Race}
use Rattle.atomic_table.specs.Seated.{TableId}
use Rattle.atomic_table.specs.Table.{Me, opening}
use Rattle.version_cell.specs.declared.board.Sight.{Sight}
use Rattle.version_cell.specs.Counts.{once_below}
use Rattle.version_cell.specs.Ties.Plays.{IsIdle}
use Rattle.version_cell.specs.Ties.Rule.{IsLive, Fits, RuleIsKept}
use Rattle.version_cell.specs.Views.{first_sight}
use Rattle.version_cell.specs.Passes.{known, IsTable, IsValid}
use Rattle.version_cell.proofs.Sums.{none_some}
use Rattle.version_cell.proofs.Beginnings.{begins_none}
use Rattle.version_cell.proofs.Passing.{keeps_pass}

none_below : (p : ℕ) → 0 ≡ once_below p 0
none_below p = grind arith

module _ {E : Type 0} (program : Automaton) (limit all : ℕ) where
  first_live : IsLive {E = E} program limit all [] None (first_sight program limit all)
  first_live =
      record {
        program_is = refl;
        limit_is = refl;
        total_is = refl;
        seen = begins_none [];
        ended = λ k q. absurd (none_some k q);
        finish = λ e q. absurd (none_some e q);
        below = λ p there. absurd (omega arith);
        held = λ h q. absurd (none_some h q);
        told = begins_none [];
        told_ended = λ k q. absurd (none_some k q);
      }

  first_fits : 0 < all → Fits {E = E} program limit all [] None (first_sight program limit all)
  first_fits some = record { spent = λ none. absurd (omega (arith, none, some)); live = λ some. first_live }

  first_each : 0 < all → (i : ℕ) (v : Sight E) → get_elem? (first_sight program limit all ∷ []) i ≡ maybe.some v → Fits {E = E} program limit all [] None v
  first_each some zero v q = subst (λ (x : Sight E). Fits program limit all [] None x) (some-injective _ _ q) (first_fits some)
  first_each some (suc i) v q = cc

  -- the rule holds at the beginning
  pub opened : (m : Automaton) (c : Race E) (slots : List (Option (Race E))) → 0 < all → m ≡ program → slots ≡ Some c ∷ [] →
      c ≡ record { program = m; limit = limit; history = []; kept = m; end = None } →
      RuleIsKept program limit all (opening (0 ∷ 0 ∷ []) slots (first_sight program limit all))
  opened m c slots some same home is =
      subst (λ (xs : List (Option (Race E))). RuleIsKept program limit all (opening (0 ∷ 0 ∷ []) xs (first_sight program limit all))) (sym home)
      (record {
        history = [];
        end = None;
        turn = 0;
        words = refl;
        views = record { each = first_each some; shares = omega arith; own = none_below; ends = refl; holders = refl };
        slot = (
          c,
          refl,
          record {
            program_is = ap (λ (x : Race E). x.program) is ∙ same;
            limit_is = ap (λ (x : Race E). x.limit) is;
            history_is = ap (λ (x : Race E). x.history) is;
            end_is = ap (λ (x : Race E). x.end) is;
          },
        );
      })

module _ {E : Type 0} (automaton : E → Automaton) (feasible : E → List Letter → Type 0) where
  -- what the first pass keeps
  pub keeps_first : (program : Automaton) (limit all : ℕ) (z y : TableId) (m : Me (Option (Race E)) (Sight E)) → z ≡ y → IsTable y →
      m ≡ (first_sight program limit all, []) → 0 < all → limit ≤ 100000 →
      IsTable z × IsIdle m × (m.0.limit ≤ 100000) × IsValid automaton feasible (known z m.0)
  keeps_first program limit all z y m same table is some small =
      keeps_pass automaton feasible y z (first_sight program limit all) m same is table refl small
      (record { shares = some; legal = tt; below = λ p there. absurd (omega arith); once = λ p. omega arith })
