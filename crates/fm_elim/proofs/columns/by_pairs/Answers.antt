use Rattle.std.proofs.Common.{◌≡◌, List, sym, subst}
use Rattle.std.specs.Prelude.{IsTrue}
use Rattle.std.specs.List.{AllByRecursion, filter}
use Rattle.fm_elim.specs.Derivations.{DerivedRow, is_upper}
use Rattle.fm_elim.proofs.Points.{passing}
use Rattle.fm_elim.proofs.columns.by_pairs.Goals as goal

pub push_all_pairs-requires : goal.push_all_pairs-requires
push_all_pairs-requires c =
    let e : c.deref.result.now ≡ filter (is_upper c.args.column) c.args.rows.items = cc c.in_ok-sides.ensures.sides.above in
    subst (λ (xs : List DerivedRow). AllByRecursion (λ u. IsTrue (is_upper c.args.column u)) xs) (sym e) (passing (is_upper c.args.column) c.args.rows.items)
