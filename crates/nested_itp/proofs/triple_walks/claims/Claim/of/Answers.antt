use Rattle.nested_itp.proofs.triple_walks.claims.Claim.of.Goals as goal

pub returns : goal.returns
returns c = λ columns qs b t nodes k h e d.
    record { position = e; is_denied = d; lefts = c.in_ok-left.ensures columns qs b t nodes k h e }
