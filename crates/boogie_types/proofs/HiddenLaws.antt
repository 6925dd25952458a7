-- Hidden locals, numbered one after another.
use Rattle.std.proofs.Common.{◌≡◌, ℕ, suc, ◌+◌, ◌-◌, ◌<◌, List, [], ◌∷◌, ◌++◌, ap, sym, ◌∙◌, append_assoc, append-nil, arith}
use Rattle.boogie_tree.specs.declared.tree.VarInfo.{VarInfo}
use Rattle.boogie_types.specs.Sorted.{hidden_locals}

-- the first of those that are left
pub hidden_first : (k n : ℕ) (v : VarInfo) → k < n → hidden_locals (k + 1) 1 ≡ v ∷ [] → hidden_locals (k + 1) (n - k) ≡ v ∷ hidden_locals ((k + 1) + 1) (n - (k + 1))
hidden_first k n v l e =
    let m : n - k ≡ suc (n - (k + 1)) = omega arith in
    ap (hidden_locals (k + 1)) m ∙ ap (λ (vs : List VarInfo). front vs v ∷ hidden_locals ((k + 1) + 1) (n - (k + 1))) e
  where
    front : List VarInfo → VarInfo → VarInfo
    front [] w = w
    front (w ∷ ws) u = w

-- one local more
pub hidden_turn : (k n : ℕ) (done new whole : List VarInfo) (v : VarInfo) → k < n → hidden_locals (k + 1) 1 ≡ v ∷ [] → new ≡ done ++ v ∷ [] →
    done ++ hidden_locals (k + 1) (n - k) ≡ whole → new ++ hidden_locals ((k + 1) + 1) (n - (k + 1)) ≡ whole
hidden_turn k n done new whole v l e p w =
    ap (λ (vs : List VarInfo). vs ++ hidden_locals ((k + 1) + 1) (n - (k + 1))) p
    ∙ append_assoc done (v ∷ []) (hidden_locals ((k + 1) + 1) (n - (k + 1)))
    ∙ ap (λ (vs : List VarInfo). done ++ vs) (sym (hidden_first k n v l e)) ∙ w

-- none is left
pub hidden_end : (n k : ℕ) (done : List VarInfo) → n - k ≡ 0 → done ++ hidden_locals (k + 1) (n - k) ≡ done
hidden_end n k done e = ap (λ (m : ℕ). done ++ hidden_locals (k + 1) m) e ∙ append-nil done
