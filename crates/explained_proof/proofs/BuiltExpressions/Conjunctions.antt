-- Conjunctions with members more, and disjunctions along a list.
use Rattle.std.proofs.Common.{◌≡◌, Bool, true, false, List, [], ◌∷◌, ◌++◌, Some, map, refl, sym, ap, ◌∙◌, append_assoc}
use Rattle.std.proofs.lemmas.List.{append-nil, map-append}
use Rattle.boogie_tree.specs.declared.tree.Expr.{Expr}
use Rattle.boogie_tree.specs.Tree.{Expression}
use Rattle.boogie_tree.specs.View.{expression}
use Rattle.explained_proof.specs.declared.built_expressions.members.Members.{Members}
use Rattle.explained_proof.specs.BuiltExpressions.Members.{Conjuncts, always, just, with_members, is_always, may_be, either_of, either, one_of}
use Rattle.explained_proof.specs.BuiltExpressions.Views.{seen, conjuncts}

-- nothing more
pub with_none : (b : Bool) (es : List Expression) → with_members (seen b es) always ≡ seen b es
with_none true es = refl
with_none false es = ap (λ xs. seen false xs) (append-nil es)

-- one member more
pub with_more : (b : Bool) (es fs : List Expression) (e : Expression) →
    with_members (with_members (seen b es) (seen false fs)) (just e) ≡ with_members (seen b es) (seen false (fs ++ e ∷ []))
with_more true es fs e = refl
with_more false es fs e = ap (λ xs. seen false xs) (append_assoc es fs (e ∷ []))

pub added_on : (m l n : Members) (ps : List Expr) (p : Expr) → conjuncts l ≡ with_members (conjuncts m) (seen false (map expression ps)) →
    conjuncts n ≡ with_members (conjuncts l) (just (expression p)) → conjuncts n ≡ with_members (conjuncts m) (seen false (map expression (ps ++ p ∷ [])))
added_on m l n ps p was now =
    now ∙ ap (λ k. with_members k (just (expression p))) was ∙ with_more m.never (map expression m.said.items) (map expression ps) (expression p) ∙
    ap (λ xs. with_members (conjuncts m) (seen false xs)) (sym (map-append expression ps (p ∷ [])))

may_be-first : (m : Conjuncts) (ms : List Conjuncts) → may_be (m ∷ []) ++ may_be ms ≡ may_be (m ∷ ms)
may_be-first m ms = by m.never refl
  where
    by : (b : Bool) → m.never ≡ b → may_be (m ∷ []) ++ may_be ms ≡ may_be (m ∷ ms)
    by true e = rw e refl
    by false e = rw e refl

-- What several conjunctions say along a list: what the first ones say, and what is left.
pub record Alternatives (all : List Conjuncts) (said : List Expression) (rest : List Conjuncts) : Type 0 where
  pub same : either all rest ≡ one_of all
  pub so_far : said ++ may_be rest ≡ may_be all

pub alternatives_begin : (all : List Conjuncts) → Alternatives all [] all
alternatives_begin all = record { same = refl; so_far = refl }

-- one that is not always true
pub alternative_next : (all : List Conjuncts) (said more : List Expression) (m : Conjuncts) (ms : List Conjuncts) → Alternatives all said (m ∷ ms) → is_always m ≡ false → more ≡ said ++ may_be (m ∷ []) →
    Alternatives all more ms
alternative_next all said more m ms s n made =
    record {
      same = sym (rw n refl) ∙ s.same;
      so_far = ap (λ xs. xs ++ may_be ms) made ∙ append_assoc said (may_be (m ∷ [])) (may_be ms) ∙ ap (λ xs. said ++ xs) (may_be-first m ms) ∙ s.so_far;
    }

pub alternative_always : (all : List Conjuncts) (said : List Expression) (m : Conjuncts) (ms : List Conjuncts) → Alternatives all said (m ∷ ms) → is_always m ≡ true → one_of all ≡ always
alternative_always all said m ms s h = sym s.same ∙ rw h refl

pub alternatives_end : (all : List Conjuncts) (said : List Expression) → Alternatives all said [] → one_of all ≡ either_of (Some said)
alternatives_end all said s = sym s.same ∙ ap (λ xs. either_of (Some xs)) (sym s.so_far ∙ append-nil said)
