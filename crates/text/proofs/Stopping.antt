-- A first impossible byte: where the machine stops.
use Rattle.std.proofs.Common.{◌≡◌, ℕ, ◌+◌, ◌-◌, ◌<◌, List, [], ◌∷◌, ◌++◌, length, get_or, take, drop, sym, ap, ◌∙◌, subst, ⊎_elim, append_assoc, append-nil, arith, length-drop}
use Rattle.std.proofs.lemmas.Bool.{cases_lt}
use Rattle.std.proofs.lemmas.List.{take_at, drop_all}
use Rattle.text.specs.Grammar.{Continues}
use Rattle.text.specs.Scanning.{Spans, StopsAt}
use Rattle.text.proofs.Machine.{start, dead, step, run, run-append, run-dead, Live}
use Rattle.text.proofs.Running.{begins_live, text_live}
use Rattle.text.proofs.Spanning.{spans_more}

take-Spans : (s : List ℕ) (p k : ℕ) (u : List ℕ) → Spans s p u k → take (k - p) (drop p s) ≡ u
take-Spans s p k u h = ap (take (k - p)) h.splits ∙ take_at u (drop k s) (k - p) (omega (arith, h.far))

-- u leads from p to k, and neither the byte at k nor the text's end can stand there
pub record Jams (s : List ℕ) (p k : ℕ) (u : List ℕ) : Type 0 where
  pub spans : Spans s p u k
  pub stops : k < length s → step (run start u) (get_or s k 0) ≡ dead
  pub missing : k ≡ length s → Live (run start u) → ⊥
  pub goes : Continues u

jam_byte : (s : List ℕ) (p k : ℕ) (u : List ℕ) → Jams s p k u → k < length s → (w : List ℕ)
    → run start ((u ++ get_or s k 0 ∷ []) ++ w) ≡ dead
jam_byte s p k u h lt w =
    ap (run start) (append_assoc u (get_or s k 0 ∷ []) w) ∙ run-append start u (get_or s k 0 ∷ w) ∙ ap (λ q. run q w) (h.stops lt)
    ∙ run-dead w

jam_live : (s : List ℕ) (p k : ℕ) (u : List ℕ) → Jams s p k u → Live (run start (drop p s)) → ⊥
jam_live s p k u h on =
    ⊎_elim
    (λ lt. subst Live (ap (run start) (spans_more s p k u h.spans lt).splits ∙ jam_byte s p k u h lt (drop (k + 1) s)) on)
    (λ ge. h.missing (omega (arith, h.spans.within)) (subst Live (ap (run start) (h.spans.splits ∙ ap (λ l. u ++ l) (drop_all k s ge) ∙ append-nil u)) on))
    (cases_lt k (length s))

pub stops_jammed : (s : List ℕ) (p k : ℕ) (u : List ℕ) → Jams s p k u → StopsAt s p k
stops_jammed s p k u h =
    let far = h.spans.far in
    let near = h.spans.within in
    record {
      low = omega arith;
      stops = record {
        within = simp length-drop (omega arith);
        before = subst Continues (sym (take-Spans s p k u h.spans)) h.goes;
        at = λ lt on.
            let lt' : k < length s = omega (arith, length-drop p s) in
            let e : k + 1 - p ≡ k - p + 1 = omega arith in
            let same = ap (λ (n : ℕ). take n (drop p s)) (sym e) ∙ take-Spans s p (k + 1) _ (spans_more s p k u h.spans lt') in
            subst Live (ap (λ l. run start (l ++ on.0)) same ∙ jam_byte s p k u h lt' on.0) (text_live _ on.1);
        missing = λ _ t. jam_live s p k u h (text_live _ t);
        none = λ fs rest b. jam_live s p k u h (begins_live _ rest fs b);
      };
    }
