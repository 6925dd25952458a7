use Rattle.std.proofs.Common.{◌∙◌, ◌<◌, ℕ, List, [], ◌∷◌, ◌++◌, Some, length, refl, ap, subst, arith}
use Rattle.nwa_reduce.specs.Ties.Marks.{leader_in}
use Rattle.nwa_reduce.specs.Ties.Signatures.{Signs}
use Rattle.nwa_reduce.specs.Ties.Classes.{lists_of}
use Rattle.nwa_reduce.specs.Ties.Seen.{seen}
use Rattle.nwa_reduce.proofs.ListLemmas.{get_within}
use Rattle.nwa_reduce.proofs.VectorLemmas.{list_there, list_new, read_at}
use Rattle.nwa_reduce.proofs.ClassLemmas.{joins, opens, one_more}
use Rattle.nwa_reduce.proofs.classing.Classes.add.Goals as goal

pub returns-then-is_new : goal.returns-then-is_new
unfolding seen
returns-then-is_new c =
    let v = c.requires.classed in
    let g =
    subst (λ (l : List ℕ). Signs c.args.self.now.nwa.now (leader_in l) c.args.state c.args.self.now.table.keys c.sign.new.table.keys c.in_ok-signature.signature.items)
    c.as_slice.ensures.value c.in_ok-signature.ensures in
    let k = c.in_ok-class.ensures.stored in
    let w = list_new _ _ _ c.in_ok-signature.signature k.0 _ c.in_ok-class.ensures.added c.in_ok-class.ensures.keys c.if-is_new.true k.1 k.2 in (
      opens (seen c.args.self.now) _ g.more c.in_ok-signature.signature.items c.args.state v c.requires.next refl refl g.table (g.distinct v.table) g.signature
          w.0 w.1 c.in_ok-push.ensures.items c.in_ok-push-2.ensures.items
          (c.in_ok-push-3.ensures.items ∙ ap (λ (n : ℕ). c.args.self.now.names.items ++ Some n ∷ []) w.2),
      refl,
      one_more _ _ _ c.in_ok-push-2.ensures.items ∙ (let n = c.requires.next in omega arith),
    )

pub returns : goal.returns
unfolding seen
returns c =
    let v = c.requires.classed in
    let g =
    subst (λ (l : List ℕ). Signs c.args.self.now.nwa.now (leader_in l) c.args.state c.args.self.now.table.keys c.sign.new.table.keys c.in_ok-signature.signature.items)
    c.as_slice.ensures.value c.in_ok-signature.ensures in
    let k = c.in_ok-class.ensures.stored in
    let w = list_there _ _ _ c.in_ok-signature.signature k.0 _ c.in_ok-class.ensures.added c.in_ok-class.ensures.keys c.if-is_new.false k.1 k.2 in
    let i : c.in_ok-class.class < length (lists_of c.args.self.now.signatures.keys) = get_within _ _ _ w.1 in
    let e = v.signed_long in (
      joins (seen c.args.self.now) _ g.more c.in_ok-signature.signature.items c.in_ok-class.class c.index-leader.result.now c.args.state v c.requires.next refl refl
          g.table (g.distinct v.table) g.signature w.0 w.1 refl (read_at c.args.self.now.heads.items c.in_ok-class.class _ (omega arith) c.index-leader.ensures) c.in_ok-push-4.ensures.items
          c.in_ok-push-5.ensures.items,
      refl,
      one_more _ _ _ c.in_ok-push-4.ensures.items ∙ (let n = c.requires.next in omega arith),
    )
