use Rattle.std.proofs.Common.{◌∙◌, ℕ, List, sym, ap, subst}
use Rattle.std.specs.Prelude.{slice_get}
use Rattle.letter_acts.specs.Invariant.{alphabet_of}
use Rattle.path_rows.specs.Versions.{return_part}
use Rattle.path_rows.specs.Stages.{BackFitsFrom, returned_from}
use Rattle.path_rows.specs.Drafts.{Added, Reads, stage_of}
use Rattle.path_rows.proofs.DraftLemmas.{on_ok}
use Rattle.path_rows.proofs.BackSteps.{fits_last, back_reads}
use Rattle.path_rows.proofs.drafts.Draft.read_back.Goals as goal

pub returned_from-requires : goal.returned_from-requires
returned_from-requires c =
    let al = alphabet_of c.args.icfg.now in
    let act = slice_get c.args.icfg.now.acts c.args.call in
    let old = c.args.self.now in
    subst (λ (exit : List ℕ). BackFitsFrom al c.args.targets.now act exit c.deref-2.result.now) (sym c.deref.ensures.value)
    (subst (λ (before : List ℕ). BackFitsFrom al c.args.targets.now act old.here.items before) (sym c.deref-2.ensures.value)
    (fits_last al c.args.targets.now act old.here.items old.saved.items c.pop.new.self.items c.in-Some.before c.in-Some.ensures.items c.requires.fits))

pub returns-clause-value : goal.returns-clause-value
returns-clause-value c =
    let al = alphabet_of c.args.icfg.now in
    let act = slice_get c.args.icfg.now.acts c.args.call in
    let old = c.args.self.now in
    let made = c.nothing.result in
    on_ok (Added made.rows.items made.columns made.here.items c.args.number (record old { saved = c.pop.new.self }) c.add.new.self)
    (Reads (return_part al c.args.targets.now act (stage_of old)) c.args.number old c.add.new.self) c.add.result
    (back_reads al c.args.targets.now act c.args.number old c.add.new.self c.pop.new.self c.in-Some.before made c.in-Some.ensures.items
    (fits_last al c.args.targets.now act old.here.items old.saved.items c.pop.new.self.items c.in-Some.before c.in-Some.ensures.items c.requires.fits)
    c.nothing.ensures.rows c.nothing.ensures.columns
    (c.nothing.ensures.here ∙ c.in_ok-here.ensures ∙ ap (λ (exit : List ℕ). returned_from al c.args.targets.now act exit c.deref-2.result.now) c.deref.ensures.value ∙
    ap (returned_from al c.args.targets.now act old.here.items) c.deref-2.ensures.value))
    c.add.ensures
