-- Values that are written one after the other, and what was kept that is forgotten behind a step on.
use Rattle.std.proofs.Common.{◌≡◌, ◌∙◌, ℕ, ◌+◌, ◌<◌, ℤ, List, [], ◌∷◌, length, drop, get_or, Option, None, Some, ap, sym}
use Rattle.std.proofs.lemmas.List.{at_drop_more}
use Rattle.boogie_tree.specs.declared.tree.Column.{Column}
use Rattle.boogie_run.specs.BoogiePoints.Points.{Point}
use Rattle.boogie_run.specs.Configurations.{Config}
use Rattle.boogie_run.specs.Steps.{Went, put, all_put, written, all_written, kept_on, moved_to, went_if}
use Rattle.boogie_run.specs.ToldActs.{kept_on_if}

-- one value more is written
pub written_more : (c d : Config) (xs : List Column) (vs : List ℤ) (i : ℕ) (dx : Column) (dv : ℤ) (w : Config) → i < length xs → i < length vs →
    d ≡ written c (get_or xs i dx) (get_or vs i dv) → all_written c (drop i xs) (drop i vs) ≡ w → all_written d (drop (i + 1) xs) (drop (i + 1) vs) ≡ w
written_more c d xs vs i dx dv w l m e so_far =
    ap (λ (z : Config). all_written z (drop (i + 1) xs) (drop (i + 1) vs)) e
    ∙ sym (at_drop_more (λ (ys : List _). all_written c ys (get_or vs i dv ∷ drop (i + 1) vs)) xs i dx l)
    ∙ sym (at_drop_more (λ (us : List _). all_written c (drop i xs) us) vs i dv m)
    ∙ so_far

pub put_more : (zs ys : List ℤ) (ns : List ℕ) (vs : List ℤ) (i : ℕ) (dn : ℕ) (dv : ℤ) (w : List ℤ) → i < length ns → i < length vs → ys ≡ put zs (get_or ns i dn) (get_or vs i dv) →
    all_put zs (drop i ns) (drop i vs) ≡ w → all_put ys (drop (i + 1) ns) (drop (i + 1) vs) ≡ w
put_more zs ys ns vs i dn dv w l m e so_far =
    ap (λ (xs : List _). all_put xs (drop (i + 1) ns) (drop (i + 1) vs)) e
    ∙ sym (at_drop_more (λ (ms : List _). all_put zs ms (get_or vs i dv ∷ drop (i + 1) vs)) ns i dn l)
    ∙ sym (at_drop_more (λ (us : List _). all_put zs (drop i ns) us) vs i dv m)
    ∙ so_far

-- a step on whose kept values are forgotten
pub forgotten : (w : Option Point) (c d e : Config) → kept_on_if w c ≡ Went d → e ≡ record d { top = record d.top { kept = [] } } → went_if w c ≡ Went e
forgotten None c d e h k = cc
forgotten (Some p) c d e h k =
    let f : kept_on c p ≡ d = cc in
    ap (λ (x : Config). Went x) (sym (k ∙ ap (λ (x : Config). record x { top = record x.top { kept = [] } }) (sym f)))
