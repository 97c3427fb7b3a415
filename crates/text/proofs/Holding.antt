-- What is kept of a label column, byte by byte.
use Rattle.std.proofs.Common.{◌≡◌, ℕ, ◌+◌, ◌<◌, ◌≤◌, min, Bool, true, false, ◌==◌, List, [], ◌∷◌, ◌++◌, length, drop, take, replicate, slice_index, slice_set, sym, refl, ap, ◌∙◌, append_assoc, append-nil, arith}
use Rattle.std.proofs.lemmas.List.{drop_more, drop_all, length_push, take-append-le}
use Rattle.text.specs.declared.label.LabelColumn.{LabelColumn}
use Rattle.text.specs.Contents.{halve, halved}
use Rattle.text.specs.LabelColumns.{label_room, held}
use Rattle.text.proofs.Padding.{padded_push, copied}

-- one byte more, where there is room
pub held_push : (x : LabelColumn) (v : List ℕ) (b : ℕ) → x.len < label_room → x ≡ held v
    → record { bytes = slice_set x.bytes x.len b; len = x.len + 1 } ≡ held (v ++ b ∷ [])
held_push x v b lt e =
    let n : x.len ≡ min label_room (length v) = ap (λ (y : LabelColumn). y.len) e in
    let at : x.len ≡ length v = omega (arith, n) in
    let bytes : slice_set x.bytes x.len b ≡ take label_room ((v ++ b ∷ []) ++ replicate label_room 0) =
    ap (λ (y : LabelColumn). slice_set y.bytes x.len b) e
    ∙ ap (λ (k : ℕ). slice_set (take label_room (v ++ replicate label_room 0)) k b) at
    ∙ sym (padded_push label_room label_room 0 b v (omega arith)) in
    let len : x.len + 1 ≡ min label_room (length (v ++ b ∷ [])) = omega (arith, n, length_push v b) in
    λ i. record { bytes = bytes i; len = len i }

-- and where there is none
pub held_full : (x : LabelColumn) (v : List ℕ) (b : ℕ) → label_room ≤ x.len → x ≡ held v → x ≡ held (v ++ b ∷ [])
held_full x v b ge e =
    let n : x.len ≡ min label_room (length v) = ap (λ (y : LabelColumn). y.len) e in
    let long : label_room ≤ length v = omega (arith, n) in
    let bytes : take label_room (v ++ replicate label_room 0) ≡ take label_room ((v ++ b ∷ []) ++ replicate label_room 0) =
    take-append-le label_room v (replicate label_room 0) long
    ∙ sym (take-append-le label_room v (b ∷ replicate label_room 0) long)
    ∙ ap (take label_room) (sym (append_assoc v (b ∷ []) (replicate label_room 0))) in
    let len : min label_room (length v) ≡ min label_room (length (v ++ b ∷ [])) = omega (arith, length_push v b) in
    e ∙ (λ i. record { bytes = bytes i; len = len i })

-- x holds what the bytes before i mean; `second` says whether a quote stands before i to which one at i would be the second
pub record HalvedTo (raw : List ℕ) (i : ℕ) (second : Bool) (x : LabelColumn) : Type 0 where
  pub meant : List ℕ
  pub split : meant ++ halve second (drop i raw) ≡ halved raw
  pub holds : x ≡ held meant

pub halving_begun : (raw : List ℕ) (x : LabelColumn) → x ≡ held [] → HalvedTo raw 0 false x
halving_begun raw x e = record { meant = []; split = refl; holds = e }

pub halving_skips : (raw : List ℕ) (i : ℕ) (x : LabelColumn) → i < length raw → HalvedTo raw i true x → HalvedTo raw (i + 1) false x
halving_skips raw i x lt h = record {
  meant = h.meant;
  split = ap (λ l. h.meant ++ l) (sym (ap (halve true) (drop_more raw i 0 lt))) ∙ h.split;
  holds = h.holds;
}

pub halving_takes : (raw : List ℕ) (i : ℕ) (x y : LabelColumn) → i < length raw → HalvedTo raw i false x
    → ((v : List ℕ) → x ≡ held v → y ≡ held (v ++ slice_index raw i ∷ [])) → HalvedTo raw (i + 1) (slice_index raw i == 34) y
halving_takes raw i x y lt h push = record {
  meant = h.meant ++ slice_index raw i ∷ [];
  split = append_assoc h.meant (slice_index raw i ∷ []) (halve (slice_index raw i == 34) (drop (i + 1) raw))
      ∙ ap (λ l. h.meant ++ l) (sym (ap (halve false) (drop_more raw i 0 lt))) ∙ h.split;
  holds = push h.meant h.holds;
}

halve_nothing : (b : Bool) → halve b [] ≡ []
halve_nothing true = refl
halve_nothing false = refl

pub halving_ended : (raw : List ℕ) (i : ℕ) (second : Bool) (x : LabelColumn) → length raw ≤ i → HalvedTo raw i second x
    → x ≡ held (halved raw)
halving_ended raw i second x ge h =
    h.holds ∙ ap held (sym (append-nil h.meant) ∙ ap (λ l. h.meant ++ l) (sym (ap (halve second) (drop_all i raw ge) ∙ halve_nothing second)) ∙ h.split)

pub held_copied : (v front : List ℕ) (n : ℕ) → n ≡ min (length v) label_room → front ≡ take n v
    → record { bytes = front ++ drop n (replicate label_room 0); len = n } ≡ held v
held_copied v front n e f =
    let least : n ≡ min label_room (length v) = omega (arith, e) in
    let bytes : front ++ drop n (replicate label_room 0) ≡ take label_room (v ++ replicate label_room 0) =
    ap (λ l. l ++ drop n (replicate label_room 0)) f
    ∙ ap (λ (k : ℕ). take k v ++ drop k (replicate label_room 0)) least
    ∙ copied label_room 0 v in
    λ i. record { bytes = bytes i; len = least i }
