use Rattle.std.proofs.Common.{◌∙◌, ℕ, List, [], subst}
use Rattle.path_rows.specs.Versions.{call_part}
use Rattle.path_rows.specs.Drafts.{IsMade, Added, Reads, stage_of}
use Rattle.path_rows.proofs.DraftLemmas.{on_ok, call_reads}
use Rattle.path_rows.proofs.drafts.Draft.read_call.Goals as goal

pub returns-clause-value : goal.returns-clause-value
returns-clause-value c =
    let old = c.args.self.now in
    let made = c.in_ok-made.made in
    on_ok (Added made.rows.items made.columns made.here.items c.args.number (record old { saved = c.push.new.self }) c.add.new.self)
    (Reads (call_part c.args.callee.now c.args.helpers c.args.rows.now (stage_of old)) c.args.number old c.add.new.self) c.add.result
    (call_reads c.args.callee.now c.args.helpers c.args.rows.now c.args.number old c.add.new.self c.push.new.self made c.in_ok-before.before
    (subst (λ (l : List ℕ). IsMade (call_part c.args.callee.now c.args.helpers c.args.rows.now (record { made = old.made; here = l; saved = [] })) made) c.deref.ensures.value
    c.in_ok-made.ensures.value)
    (c.in_ok-before.ensures.items ∙ c.deref-2.ensures.value) c.in_ok-push.ensures.items)
    c.add.ensures
