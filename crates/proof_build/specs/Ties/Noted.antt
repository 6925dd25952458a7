-- Numbers of triples that are noted.
use Rattle.std.specs.Prelude.{◌≡◌, Bool, true, false, List, [], ◌∷◌, ◌++◌}
use Rattle.nwa_base.specs.Members.{Member}
use Rattle.proof_names.specs.declared.outlines.Listed.{Listed}
use Rattle.proof_names.specs.declared.outlines.Listed.TheVariants.{Inside, Call, Back}
use Rattle.proof_build.specs.declared.noted.NotedKey.{NotedKey}
use Rattle.proof_build.specs.declared.noted.NotedKey.TheVariants as keys

-- the numbers that the key stands for
abbrev pub plain_key : NotedKey → Listed
plain_key (keys.Inside q l r) = Inside q l r
plain_key (keys.Call q l r) = Call q l r
plain_key (keys.Back q p l r) = Back q p l r

-- the numbers are at the end of the list if they are new, and else it is as it was
abbrev pub IsInserted : List Listed → Listed → Bool → List Listed → Type 0
IsInserted old t true new = (Member old t → ⊥) × (new ≡ old ++ t ∷ [])
IsInserted old t false new = Member old t × (new ≡ old)
