-- A frame behind a loop and behind a list is as it was.
use Rattle.std.proofs.Common.{◌≡◌, ℕ, ◌+◌, ◌-◌, true, List, ◌++◌, length, length-append, drop, ap, ◌∙◌, subst, arith}
use Rattle.std.proofs.Math.Seq.{drop-append_seam}
use Rattle.typed_tree.specs.TypedTree.{TypedBlock}
use Rattle.typed_tree.specs.declared.typing_rules.frame.Frame.{Frame}
use Rattle.typed_tree.specs.TypingRules.Rules.{is_block, own_labels, within, looped}
use Rattle.typed_tree.specs.TypingRules.Ties.Judged.{context}

pub round_kept : (k j m : Frame) (b : TypedBlock) → j ≡ record k { loops = k.loops + 1 } → m ≡ j → is_block (within (context j) b) b ≡ true →
    (record m { loops = k.loops } ≡ k) × (is_block (within (looped (context k)) b) b ≡ true)
round_kept k j m b e f h =
    (ap (λ (x : Frame). record x { loops = k.loops }) (f ∙ e), subst (λ (x : Frame). is_block (within (context x) b) b ≡ true) e h)

own_dropped : (xs ys : List ℕ) → drop (length (xs ++ ys) - length ys) (xs ++ ys) ≡ ys
own_dropped xs ys =
    let e : length (xs ++ ys) - length ys ≡ length xs = omega (arith, length-append xs ys) in
    ap (λ (n : ℕ). drop n (xs ++ ys)) e ∙ drop-append_seam xs ys

pub list_kept : (k j m n : Frame) (count : ℕ) (b : TypedBlock) → count ≡ length k.labels → j ≡ record k { labels = own_labels b ++ k.labels } → m ≡ j → is_block (context j) b ≡ true →
    n ≡ record m { labels = drop (length m.labels - count) m.labels } → (n ≡ k) × (is_block (within (context k) b) b ≡ true)
list_kept k j m n count b c e f h g = (
  g ∙ ap (λ (x : Frame). record x { labels = drop (length x.labels - count) x.labels }) (f ∙ e)
      ∙ ap (λ (d : ℕ). record k { labels = drop (length (own_labels b ++ k.labels) - d) (own_labels b ++ k.labels) }) c
      ∙ ap (λ (ls : List ℕ). record k { labels = ls }) (own_dropped (own_labels b) k.labels),
  subst (λ (x : Frame). is_block (context x) b ≡ true) e h,
)
