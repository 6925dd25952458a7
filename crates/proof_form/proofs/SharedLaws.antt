-- Refutations as texts of their own.
use Rattle.std.proofs.Common.{◌≡◌, true, List, [], ◌∷◌, drop, refl}
use Rattle.std.proofs.lemmas.Bool.{false≢true}
use Rattle.proof_form.specs.Refutations.{RefutationNode, leaf, cut, cases, is_refutation, refutation_text}

-- the text of a refutation begins with a space
pub begins_with_space : (ns : List RefutationNode) → is_refutation ns ≡ true → refutation_text ns ≡ 32 ∷ drop 1 (refutation_text ns)
begins_with_space [] h = absurd (false≢true h)
begins_with_space (leaf ps ∷ ns) h = refl
begins_with_space (cut column k ∷ ns) h = refl
begins_with_space (cases n ∷ ns) h = refl
