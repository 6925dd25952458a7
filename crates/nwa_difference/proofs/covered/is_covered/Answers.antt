use Rattle.std.proofs.Common.{◌∙◌, ℕ, List, sym, subst}
use Rattle.nwa_base.specs.Members.{Member}
use Rattle.nwa_difference.proofs.covered.is_covered.Goals as goal

pub returns : goal.returns
returns c = λ yes.
    let r = c.ends_at.ensures yes in (
      c.in-Some.cover,
      r.0,
      sym c.cover_of.ensures ∙ c.in-Some.is,
      subst (λ (s : List (ℕ × ℕ)). Member {X = ℕ × ℕ} s (r.0, c.in-Some.cover)) c.pairs-pairs.ensures r.1,
    )
