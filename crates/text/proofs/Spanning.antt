-- Going on over a text, by a byte and by a part.
use Rattle.std.proofs.Common.{◌≡◌, ℕ, ◌+◌, ◌<◌, ◌≤◌, ◌≢◌, List, [], ◌∷◌, ◌++◌, length, get_or, drop, sym, refl, ap, ◌∙◌, subst, append_assoc, inl, arith, length-append, length-drop}
use Rattle.std.specs.List.{AllByRecursion}
use Rattle.std.proofs.slice.Lists.{all_by_recursion_push}
use Rattle.std.proofs.lemmas.Bool.{ne_eqb}
use Rattle.std.proofs.Math.Seq.{drop-append_seam}
use Rattle.std.proofs.lemmas.List.{drop_more, drop-drop, flat_map_more}
use Rattle.text.specs.Grammar.{Plain, Quotable, between_quotes, doubled}
use Rattle.text.specs.Scanning.{Spans}

pub spans_none : (s : List ℕ) (p : ℕ) → p ≤ length s → Spans s p [] p
spans_none s p h = record { splits = refl; far = omega arith; within = h }

pub spans_on : (s : List ℕ) (p i j : ℕ) (r q : List ℕ) → Spans s p r i → Spans s i q j → Spans s p (r ++ q) j
spans_on s p i j r q a b = record {
  splits = a.splits ∙ ap (λ l. r ++ l) b.splits ∙ sym (append_assoc r q (drop j s));
  far = simp length-append (omega arith);
  within = b.within;
}

spans_one : (s : List ℕ) (i : ℕ) → i < length s → Spans s i (get_or s i 0 ∷ []) (i + 1)
spans_one s i h = record { splits = drop_more s i 0 h; far = refl; within = omega arith }

pub spans_byte : (s : List ℕ) (i b : ℕ) → i < length s → get_or s i 0 ≡ b → Spans s i (b ∷ []) (i + 1)
spans_byte s i b h e = subst (λ (x : ℕ). Spans s i (x ∷ []) (i + 1)) e (spans_one s i h)

pub spans_more : (s : List ℕ) (p i : ℕ) (r : List ℕ) → Spans s p r i → i < length s → Spans s p (r ++ get_or s i 0 ∷ []) (i + 1)
spans_more s p i r a h = spans_on s p i (i + 1) r _ a (spans_one s i h)

pub spans_two : (s : List ℕ) (i a b : ℕ) → i + 1 < length s → get_or s i 0 ≡ a → get_or s (i + 1) 0 ≡ b → Spans s i (a ∷ b ∷ []) (i + 2)
spans_two s i a b h first second =
    let e : i + 1 + 1 ≡ i + 2 = omega arith in
    subst (λ (n : ℕ). Spans s i (a ∷ b ∷ []) n) e (spans_on _ _ _ _ _ _ (spans_byte s i a (omega arith) first) (spans_byte s (i + 1) b h second))

-- plain bytes, as far as i
pub record PlainBytes (s : List ℕ) (p i : ℕ) : Type 0 where
  pub raw : List ℕ
  pub each : AllByRecursion Plain raw
  pub spans : Spans s p raw i

pub plain_none : (s : List ℕ) (p : ℕ) → p ≤ length s → PlainBytes s p p
plain_none s p h = record { raw = []; each = tt; spans = spans_none s p h }

pub plain_byte : (s : List ℕ) (p i : ℕ) → PlainBytes s p i → i < length s → Plain (get_or s i 0) → PlainBytes s p (i + 1)
plain_byte s p i r h ok = record {
  raw = r.raw ++ get_or s i 0 ∷ [];
  each = all_by_recursion_push Plain r.raw _ r.each ok;
  spans = spans_more s p i r.raw r.spans h;
}

-- a quote, and the bytes behind it of a quoted field, as far as i
pub record Quoted (s : List ℕ) (p i : ℕ) : Type 0 where
  pub value : List ℕ
  pub each : AllByRecursion Quotable value
  pub spans : Spans s p (34 ∷ doubled value) i

pub quote_opens : (s : List ℕ) (p : ℕ) → p < length s → get_or s p 0 ≡ 34 → Quoted s p (p + 1)
quote_opens s p h e = record { value = []; each = tt; spans = spans_byte s p 34 h e }

quoted_on : (s : List ℕ) (p i j b : ℕ) → (q : Quoted s p i) → Quotable b → Spans s i (between_quotes b) j → Quoted s p j
quoted_on s p i j b q h t = record {
  value = q.value ++ b ∷ [];
  each = all_by_recursion_push Quotable q.value b q.each h;
  spans = subst (λ (r : List ℕ). Spans s p (34 ∷ r) j) (flat_map_more between_quotes [] q.value b) (spans_on s p i j _ _ q.spans t);
}

pub quoted_byte : (s : List ℕ) (p i : ℕ) → Quoted s p i → i < length s → get_or s i 0 ≢ 34 → Quotable (get_or s i 0) → Quoted s p (i + 1)
quoted_byte s p i q h no' ok = quoted_on s p i (i + 1) (get_or s i 0) q ok (rw (ne_eqb (get_or s i 0) 34 no') (spans_one s i h))

pub quoted_quote : (s : List ℕ) (p i : ℕ) → Quoted s p i → i + 1 < length s → get_or s i 0 ≡ 34 → get_or s (i + 1) 0 ≡ 34
    → Quoted s p (i + 2)
quoted_quote s p i q h first second = quoted_on s p i (i + 2) 34 q (inl (omega arith, omega arith)) (spans_two s i 34 34 h first second)

-- what is found at a place is there as far as it goes
pub spans_from : (s : List ℕ) (p : ℕ) (r t : List ℕ) → p ≤ length s → drop p s ≡ r ++ t → Spans s p r (p + length r)
spans_from s p r t low e =
    let long : length s ≡ p + length r + length t = omega (arith, length-drop p s, simp length-append at (ap length e)) in
    let behind : drop (p + length r) s ≡ t = sym (drop-drop (length r) p s) ∙ ap (drop (length r)) e ∙ drop-append_seam r t in
    record {
      splits = e ∙ ap (λ l. r ++ l) (sym behind);
      far = refl;
      within = omega arith;
    }

pub spans_behind : (s : List ℕ) (p e : ℕ) (r q : List ℕ) → Spans s p (r ++ q) e → Spans s (p + length r) q e
spans_behind s p e r q h =
    record {
      splits = sym (drop-drop (length r) p s) ∙ ap (drop (length r)) (h.splits ∙ append_assoc r q (drop e s))
          ∙ drop-append_seam r (q ++ drop e s);
      far = h.far ∙ simp length-append (omega arith);
      within = h.within;
    }

pub spans_front : (s : List ℕ) (p e : ℕ) (r q : List ℕ) → Spans s p (r ++ q) e → Spans s p r (p + length r)
spans_front s p e r q h = spans_from s p r (q ++ drop e s) (omega (arith, h.far, h.within)) (h.splits ∙ append_assoc r q (drop e s))
