use Rattle.std.proofs.Common.{ℕ, ◌∷◌, ap, ◌∙◌, ◌<◌, ◌^◌, arith, List}
use Rattle.std.proofs.lemmas.Fmt.{decimal-digits_of}
use Rattle.boogie_types.proofs.hidden.hidden_name.Goals as goal

pub returns : goal.returns
returns c =
    let fits : c.args.number < 2 ^ 64 = omega arith in
    c.new.ensures ∙ ap (λ v. v.items) c.into_bytes.ensures.value ∙ c.in_ok-name.ensures.ok
    ∙ ap (λ (ds : List ℕ). 104 ∷ 58 ∷ ds) (decimal-digits_of c.args.number c.requires fits)
