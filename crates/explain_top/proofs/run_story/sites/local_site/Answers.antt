use Rattle.std.proofs.Common.{◌≡◌, ◌∙◌, ◌-◌, Option, length, ap, sym, refl, arith}
use Rattle.std.specs.Option.{option_map}
use Rattle.std.specs.Borrow.{Bor}
use Rattle.boogie_tree.specs.View as view
use Rattle.explain_top.specs.declared.run_story.tables.Heading.{Heading}
use Rattle.explain_top.specs.RunStory.Sites.{local_site}
use Rattle.explain_top.specs.RunStory.Tables.{heading_of}
use Rattle.explain_top.proofs.RunStory.SourceLemmas.{result_at, declared_at, hidden_at}
use Rattle.explain_top.proofs.run_story.sites.local_site.Goals as goal

pub returns-in-Some-get-2 : goal.returns-in-Some-get-2
returns-in-Some-get-2 c =
    let h = c.in-Some.heading.now in
    let n = c.args.number in
    let count : n - c.len.result ≡ n - length (view.procedure h.procedure.now).params = omega (arith, c.len.ensures, c.deref.ensures.len, ap length c.deref.ensures.value) in
    result_at (view.procedure h.procedure.now) h.locals.now n (n - c.len.result) c.in-Some-get-2.declared.now c.deref.result.now c.deref-2.result.now
    c.deref.ensures.value c.deref-2.ensures.value count
    c.in_default-get.ensures.lookup.3 c.in-Some-get-2.ensures.lookup.3.0 c.in-Some-get-2.ensures.lookup.1
    ∙ ap (λ (o : Option (Bor Heading)). local_site (option_map (λ h. heading_of h.now) o) n) (sym c.in-Some.is)

pub returns-in-Some-get-3 : goal.returns-in-Some-get-3
returns-in-Some-get-3 c =
    let h = c.in-Some.heading.now in
    let n = c.args.number in
    let count : n - c.len.result ≡ n - length (view.procedure h.procedure.now).params = omega (arith, c.len.ensures, c.deref.ensures.len, ap length c.deref.ensures.value) in
    let rest : (n - c.len.result) - c.len-2.result ≡ (n - c.len.result) - length (view.procedure h.procedure.now).results =
    omega (arith, c.len-2.ensures, c.deref-2.ensures.len, ap length c.deref-2.ensures.value) in
    declared_at (view.procedure h.procedure.now) h.locals.now n (n - c.len.result) ((n - c.len.result) - c.len-2.result) c.in-Some-get-3.local.now c.deref.result.now c.deref-2.result.now h.locals.now
    c.deref.ensures.value c.deref-2.ensures.value refl count rest
    c.in_default-get.ensures.lookup.3 c.in_default-get-2.ensures.lookup.3 c.in-Some-get-3.ensures.lookup.3.0 c.in-Some-get-3.ensures.lookup.1
    ∙ ap (λ (o : Option (Bor Heading)). local_site (option_map (λ h. heading_of h.now) o) n) (sym c.in-Some.is)

pub returns-in-None : goal.returns-in-None
returns-in-None c =
    let h = c.in-Some.heading.now in
    let n = c.args.number in
    let count : n - c.len.result ≡ n - length (view.procedure h.procedure.now).params = omega (arith, c.len.ensures, c.deref.ensures.len, ap length c.deref.ensures.value) in
    let rest : (n - c.len.result) - c.len-2.result ≡ (n - c.len.result) - length (view.procedure h.procedure.now).results =
    omega (arith, c.len-2.ensures, c.deref-2.ensures.len, ap length c.deref-2.ensures.value) in
    hidden_at (view.procedure h.procedure.now) h.locals.now n (n - c.len.result) ((n - c.len.result) - c.len-2.result) c.deref.result.now c.deref-2.result.now h.locals.now
    c.deref.ensures.value c.deref-2.ensures.value refl count rest
    c.in_default-get.ensures.lookup.3 c.in_default-get-2.ensures.lookup.3 c.in-None.ensures.lookup.3
    ∙ ap (λ (o : Option (Bor Heading)). local_site (option_map (λ h. heading_of h.now) o) n) (sym c.in-Some.is)
