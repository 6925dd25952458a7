use Rattle.std.proofs.Common.{map, sym}
use Rattle.std.specs.String.{string_bytes}
use Rattle.explain_top.specs.Ties.Views.{Asks}
use Rattle.explain_top.proofs.reporting.reported.Goals as goal

pub returns-clause-safe : goal.returns-clause-safe
returns-clause-safe g c =
    let ask : Asks (map string_bytes c.args.words.now) c.in-Some.request = sym (rw c.in-Some.is at c.in_ok-request.ensures) in
    c.in_ok-reported_on_texts.ensures.safe (map string_bytes c.args.words.now) ask

pub returns-clause-fails : goal.returns-clause-fails
returns-clause-fails g c =
    let ask : Asks (map string_bytes c.args.words.now) c.in-Some.request = sym (rw c.in-Some.is at c.in_ok-request.ensures) in
    c.in_ok-reported_on_texts.ensures.fails (map string_bytes c.args.words.now) ask

pub returns-clause-traced : goal.returns-clause-traced
returns-clause-traced g c =
    let ask : Asks (map string_bytes c.args.words.now) c.in-Some.request = sym (rw c.in-Some.is at c.in_ok-request.ensures) in
    c.in_ok-reported_on_texts.ensures.traced (map string_bytes c.args.words.now) ask
