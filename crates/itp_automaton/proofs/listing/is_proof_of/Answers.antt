use Rattle.std.proofs.Common.{◌∙◌, ◌<◌, length, sym, arith}
use Rattle.itp_automaton.proofs.StateLaws.{got_at, member_at}
use Rattle.itp_automaton.proofs.listing.is_proof_of.Goals as goal

pub returns : goal.returns
returns c = λ yes.
    let proofs = c.args.proofs.now in
    let lt : c.args.place < length c.args.proofs.now = omega arith in (
      c.index-proofs-place.result,
      member_at proofs c.args.place c.index-proofs-place.result (got_at proofs c.args.place c.index-proofs-place.result lt c.index-proofs-place.is),
      sym c.triple.ensures.value ∙ sym (c.is_triple_from.ensures yes),
    )
