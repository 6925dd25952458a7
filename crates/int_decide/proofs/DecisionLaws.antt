-- Decisions of parts, one beside another: the order is kept, brackets may move, and a refutation without nodes changes nothing.
use Rattle.std.proofs.Common.{◌≡◌, ◌↔◌, List, [], ◌∷◌, ◌++◌, map, append_assoc, refl, sym, ap, ◌∙◌}
use Rattle.std.proofs.lemmas.List.{append-nil}
use Rattle.farkas_check.specs.Nodes.{PlainNode}
use Rattle.int_decide.specs.Decisions.{Decision, refuted, whole, gap, beside, all_beside, under, UnlessWhole}
use Rattle.int_decide.specs.Numbers.{EachUntilWhole}

-- ---- two parts

-- no nodes in front
pub nothing_beside : (d : Decision) → beside (refuted []) d ≡ d
nothing_beside (refuted ns) = refl
nothing_beside (whole x) = refl
nothing_beside gap = refl

-- no nodes behind
pub beside_nothing : (d : Decision) → beside d (refuted []) ≡ d
beside_nothing (refuted ns) = ap refuted (append-nil ns)
beside_nothing (whole x) = refl
beside_nothing gap = refl

-- three parts
pub beside_assoc : (a b c : Decision) → beside (beside a b) c ≡ beside a (beside b c)
beside_assoc (whole x) b c = refl
beside_assoc gap (whole y) c = refl
beside_assoc gap gap (whole z) = refl
beside_assoc gap gap gap = refl
beside_assoc gap gap (refuted ls) = refl
beside_assoc gap (refuted ms) (whole z) = refl
beside_assoc gap (refuted ms) gap = refl
beside_assoc gap (refuted ms) (refuted ls) = refl
beside_assoc (refuted ns) (whole y) c = refl
beside_assoc (refuted ns) gap (whole z) = refl
beside_assoc (refuted ns) gap gap = refl
beside_assoc (refuted ns) gap (refuted ls) = refl
beside_assoc (refuted ns) (refuted ms) (whole z) = refl
beside_assoc (refuted ns) (refuted ms) gap = refl
beside_assoc (refuted ns) (refuted ms) (refuted ls) = ap refuted (append_assoc ns ms ls)

-- ---- a node above

-- the node stands in front of the part's nodes
pub under_beside : (n : PlainNode) (d : Decision) → under n d ≡ beside (refuted (n ∷ [])) d
under_beside n (refuted ns) = refl
under_beside n (whole x) = refl
under_beside n gap = refl

-- of what is under a node, the first part goes with the node
pub under_first : (n : PlainNode) (a b : Decision) → under n (beside a b) ≡ beside (under n a) b
under_first n a b =
    under_beside n (beside a b) ∙ sym (beside_assoc (refuted (n ∷ [])) a b) ∙ ap (λ (d : Decision). beside d b) (sym (under_beside n a))

-- ---- many parts

-- one part
pub all_beside-one : (d : Decision) → all_beside (d ∷ []) ≡ d
all_beside-one d = beside_nothing d

-- two lists of parts
pub all_beside-append : (ds es : List Decision) → all_beside (ds ++ es) ≡ beside (all_beside ds) (all_beside es)
all_beside-append [] es = sym (nothing_beside (all_beside es))
all_beside-append (d ∷ ds) es =
    ap (λ (e : Decision). beside d e) (all_beside-append ds es) ∙ sym (beside_assoc d (all_beside ds) (all_beside es))

-- parts made from a list
pub all_beside-map-append : {X : Type 0} (decided : X → Decision) (xs ys : List X) →
    all_beside (map decided (xs ++ ys)) ≡ beside (all_beside (map decided xs)) (all_beside (map decided ys))
all_beside-map-append decided [] ys = sym (nothing_beside (all_beside (map decided ys)))
all_beside-map-append decided (x ∷ xs) ys =
    ap (λ (e : Decision). beside (decided x) e) (all_beside-map-append decided xs ys) ∙
    sym (beside_assoc (decided x) (all_beside (map decided xs)) (all_beside (map decided ys)))

-- ---- what counts unless something before it has a whole point

pub UnlessWhole-beside : (a b : Decision) (P : Type 0) → UnlessWhole (beside a b) P ↔ UnlessWhole a (UnlessWhole b P)
UnlessWhole-beside (whole x) b P = (λ h. h, λ h. h)
UnlessWhole-beside gap (whole y) P = (λ h. h, λ h. h)
UnlessWhole-beside gap gap P = (λ h. h, λ h. h)
UnlessWhole-beside gap (refuted ms) P = (λ h. h, λ h. h)
UnlessWhole-beside (refuted ns) (whole y) P = (λ h. h, λ h. h)
UnlessWhole-beside (refuted ns) gap P = (λ h. h, λ h. h)
UnlessWhole-beside (refuted ns) (refuted ms) P = (λ h. h, λ h. h)

pub UnlessWhole-under : (n : PlainNode) (d : Decision) (P : Type 0) → UnlessWhole (under n d) P ↔ UnlessWhole d P
UnlessWhole-under n (refuted ns) P = (λ h. h, λ h. h)
UnlessWhole-under n (whole x) P = (λ h. h, λ h. h)
UnlessWhole-under n gap P = (λ h. h, λ h. h)

pub UnlessWhole-weaker : (d : Decision) (P Q : Type 0) → (P → Q) → UnlessWhole d P → UnlessWhole d Q
UnlessWhole-weaker (refuted ns) P Q f h = f h
UnlessWhole-weaker (whole x) P Q f h = tt
UnlessWhole-weaker gap P Q f h = f h

-- both facts count
pub UnlessWhole-both : (d : Decision) (P Q : Type 0) → UnlessWhole d (P × Q) ↔ (UnlessWhole d P × UnlessWhole d Q)
UnlessWhole-both (refuted ns) P Q = (λ h. h, λ h. h)
UnlessWhole-both (whole x) P Q = (λ h. (tt, tt), λ h. tt)
UnlessWhole-both gap P Q = (λ h. h, λ h. h)

-- the members of two lists, each until there is a whole point
pub EachUntilWhole-append : {X : Type 0} (decided : X → Decision) (P : X → Type 0) (xs ys : List X) →
    EachUntilWhole decided P (xs ++ ys) ↔ (EachUntilWhole decided P xs × UnlessWhole (all_beside (map decided xs)) (EachUntilWhole decided P ys))
EachUntilWhole-append decided P [] ys = (λ h. (tt, h), λ h. h.1)
EachUntilWhole-append decided P (x ∷ xs) ys =
    let r = EachUntilWhole-append decided P xs ys in
    let d : Decision = decided x in
    let e : Decision = all_beside (map decided xs) in
    let X1 : Type 0 = EachUntilWhole decided P xs in
    let Y1 : Type 0 = EachUntilWhole decided P ys in
    let b = UnlessWhole-beside d e Y1 in
    let t = UnlessWhole-both d X1 (UnlessWhole e Y1) in (
      λ h. let k = t.0 (UnlessWhole-weaker d (EachUntilWhole decided P (xs ++ ys)) (X1 × UnlessWhole e Y1) r.0 h.1) in ((h.0, k.0), b.1 k.1),
      λ h. (h.0.0, UnlessWhole-weaker d (X1 × UnlessWhole e Y1) (EachUntilWhole decided P (xs ++ ys)) r.1 (t.1 (h.0.1, b.0 h.1))),
    )
