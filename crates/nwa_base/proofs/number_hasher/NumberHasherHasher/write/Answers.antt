use Rattle.std.proofs.Common.{◌≡◌, ◌∙◌, ap, sym}
use Rattle.nwa_base.specs.NumberHashes.{mixed, after_bytes}
use Rattle.nwa_base.proofs.NumberHashLemmas.{after_four, after_eight, after_others}
use Rattle.nwa_base.proofs.number_hasher.NumberHasherHasher.write.Goals as goal
use Rattle.nwa_base.proofs.number_hasher.NumberHasherHasher.write.Goals.{then-bytes-eq4, else-bytes-eq4+then-bytes-eq8, else-bytes-eq4+else-bytes-eq8}

pub returns : goal.returns
returns c =
    let state = c.args.self.now.state in
    let bytes = c.args.bytes.now in
    let after : c.if-bytes-eq4.self ≡ after_bytes c.args.self.now.state c.args.bytes.now =
    elim c.if-bytes-eq4.branch [
      | then-bytes-eq4 w ↦ w.self-is ∙ w.mixed-self.ensures ∙ ap (mixed state) w.read_u32.ensures ∙ sym (after_four state bytes w.if-bytes-eq4.true)
      | else-bytes-eq4+then-bytes-eq8 w ↦ w.self-is ∙ w.mixed.ensures ∙ ap (mixed state) w.read_u64.ensures ∙ sym (after_eight state bytes w.if-bytes-eq4.false w.if-bytes-eq8.true)
      | else-bytes-eq4+else-bytes-eq8 w ↦ w.self-is ∙ w.after_each.ensures ∙ sym (after_others state bytes w.if-bytes-eq4.false w.if-bytes-eq8.false)
    ] in
    λ i. record { state = after i }
