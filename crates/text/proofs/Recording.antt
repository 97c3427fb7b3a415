-- A record field by field: the fields so far, where it ends, and where it breaks off.
use Rattle.std.proofs.Common.{◌≡◌, ◌≢◌, ℕ, ◌+◌, ◌-◌, ◌<◌, ◌≤◌, List, [], ◌∷◌, ◌++◌, length, get_or, drop, set, sym, refl, ap, ◌∙◌, subst, inl, inr, ⊎_elim, append_assoc, append-nil, arith, length-append, length-drop}
use Rattle.std.specs.List.{AllByRecursion}
use Rattle.std.proofs.slice.Lists.{all_by_recursion_push}
use Rattle.std.proofs.lemmas.List.{drop_all, length_push}
use Rattle.text.specs.declared.record.Field.{Field}
use Rattle.text.specs.declared.record.Record.{Record}
use Rattle.text.specs.declared.scan.Behind.TheVariants.{Comma, End, Impossible}
use Rattle.text.specs.Grammar.{plain, quoted, doubled, Piece, WellFormed, raws, commaed, Row, Begins, Text, none, more}
use Rattle.text.specs.Places.{placed, kept, record_of}
use Rattle.text.specs.Resuming.{resumed}
use Rattle.text.specs.Reading.{columns_of, Reads, Breaks}
use Rattle.text.specs.Scanning.{Spans, PlainRun, QuotedRun, FieldRun, QuotedBreak, HasCrlf, Follows, StopsAt}
use Rattle.text.proofs.Machine.{start, inside, returned, dead, step, run, run-append, Live, return_returns}
use Rattle.text.proofs.Meaning.{columns_of-record_of}
use Rattle.text.proofs.Placing.{led, led_push, commaed_push, raws_push, length-placed, placed_push, kept_push}
use Rattle.text.proofs.Running.{field_comma, field_open, inside-doubled, inside_stops, returned_stops, plain_stops, quoted_stops}
use Rattle.text.proofs.Spanning.{spans_none, spans_on, spans_byte, spans_two}
use Rattle.text.proofs.Stopping.{stops_jammed}
use Rattle.text.proofs.Unique.{begins_same}

-- a field from p to e, and no other byte can stand at e but a comma or a CR
record FieldFound (s : List ℕ) (p e : ℕ) : Type 0 where
  piece : Piece
  well : WellFormed piece
  spans : Spans s p piece.raw e
  stops : e < length s → get_or s e 0 ≢ 44 → get_or s e 0 ≢ 13 → step (run start piece.raw) (get_or s e 0) ≡ dead

found_plain : (s : List ℕ) (p e : ℕ) → PlainRun s p e → (p < length s → get_or s p 0 ≢ 34) → FieldFound s p e
found_plain s p e h no' = record {
  piece = record { raw = h.raw; content = h.raw };
  well = plain h.each;
  spans = h.spans;
  stops = λ lt c r. plain_stops h.raw _ h.each (λ z q. let same : e ≡ p = omega (arith, h.spans.far) in no' (omega arith) (rw same at q)) (h.stops lt) c r;
}

found_quoted : (s : List ℕ) (p e : ℕ) → QuotedRun s p e → FieldFound s p e
found_quoted s p e h = record {
  piece = record { raw = 34 ∷ doubled h.value ++ 34 ∷ []; content = h.value };
  well = quoted h.each;
  spans = h.spans;
  stops = λ lt c r. quoted_stops h.value _ h.each (h.stops lt) c r;
}

field_found : (s : List ℕ) (p e : ℕ) → FieldRun s p e → FieldFound s p e
field_found s p e h = ⊎_elim (λ a. found_plain s p e a.0 a.1) (λ b. found_quoted s p e b) h

run_led : (fs : List Piece) → AllByRecursion WellFormed fs → run start (led (raws fs)) ≡ start
run_led [] h = refl
run_led (f ∷ fs) h = ap (run start) (append_assoc f.raw (44 ∷ []) (led (raws fs))) ∙ field_comma f.raw f.content (led (raws fs)) h.0 ∙ run_led fs h.1

run_behind : (fs : List Piece) (r : List ℕ) → AllByRecursion WellFormed fs → run start (led (raws fs) ++ r) ≡ run start r
run_behind fs r h = run-append start (led (raws fs)) r ∙ ap (λ q. run q r) (run_led fs h)

row_push : (fs : List Piece) (f : Piece) → AllByRecursion WellFormed fs → WellFormed f → Row (fs ++ f ∷ [])
row_push fs f h g = (omega (arith, length_push fs f), all_by_recursion_push WellFormed fs f h g)

-- as it is written
commaed_raws : (fs : List Piece) (f : Piece) → commaed (raws (fs ++ f ∷ [])) ≡ led (raws fs) ++ f.raw
commaed_raws fs f = ap commaed (raws_push fs f) ∙ commaed_push (raws fs) f.raw

-- fields can be continued to a text
row_text : (fs : List Piece) (f : Piece) → AllByRecursion WellFormed fs → WellFormed f → Text ((led (raws fs) ++ f.raw) ++ 13 ∷ 10 ∷ [])
row_text fs f h g =
    let e = commaed_raws fs f in
    more {fs = fs ++ f ∷ []} {rest = []}
    (record {
      begun = omega (arith, length-append (led (raws fs) ++ f.raw) (13 ∷ 10 ∷ []));
      row = row_push fs f h g;
      ended = inl (ap (λ l. l ++ 13 ∷ 10 ∷ []) (sym e));
    })
    none

-- x has the fields of the record at p that stand before x.next
pub record SoFar (s : List ℕ) (p : ℕ) (x : Record) : Type 0 where
  pub pieces : List Piece
  pub each : AllByRecursion WellFormed pieces
  pub spans : Spans s p (led (raws pieces)) x.next
  pub counted : x.count ≡ length (raws pieces)
  pub filled : x.fields ≡ kept (placed p (raws pieces))
  pub far : p + x.count ≤ x.next

pub so_far_none : (s : List ℕ) (p : ℕ) → p < length s → SoFar s p (record { fields = kept []; count = 0; next = p })
so_far_none s p h = record { pieces = []; each = tt; spans = spans_none s p (omega arith); counted = refl; filled = refl; far = omega arith }

counted_push : (s : List ℕ) (p : ℕ) (x : Record) (f : Piece) → (so : SoFar s p x) → x.count + 1 ≡ length (raws (so.pieces ++ f ∷ []))
counted_push s p x f so = ap (λ (n : ℕ). n + 1) so.counted ∙ sym (ap length (raws_push so.pieces f) ∙ length_push (raws so.pieces) f.raw)

filled_push : (s : List ℕ) (p : ℕ) (x : Record) (f : Piece) (place : Field) → (so : SoFar s p x) → place.from ≡ x.next
    → Spans s x.next f.raw place.to
    → set x.fields x.count place ≡ kept (placed p (raws (so.pieces ++ f ∷ [])))
filled_push s p x f place so e t =
    let rs = raws so.pieces in
    let ends : place.to ≡ place.from + length f.raw = omega (arith, e, t.far) in
    let places = ap (placed p) (raws_push so.pieces f) ∙ placed_push p place.from place.to rs f.raw (e ∙ so.spans.far) ends in
    ap (λ l. set l x.count place) so.filled
    ∙ ap (λ (n : ℕ). set (kept (placed p rs)) n place) (so.counted ∙ sym (length-placed p rs))
    ∙ sym (kept_push (placed p rs) place)
    ∙ ap kept (sym places)

-- one field more, and its comma
pub so_far_more : (s : List ℕ) (p : ℕ) (x : Record) (place : Field) → SoFar s p x → (place.from ≡ x.next) × FieldRun s x.next place.to
    → Follows s place.to Comma
    → SoFar s p (record { fields = set x.fields x.count place; count = x.count + 1; next = place.to + 1 })
so_far_more s p x place so here comma =
    let f = field_found s x.next place.to here.1 in
    let written = ap led (raws_push so.pieces f.piece) ∙ led_push (raws so.pieces) f.piece.raw in
    let byte = spans_byte s place.to 44 comma.0 comma.1 in
    record {
      pieces = so.pieces ++ f.piece ∷ [];
      each = all_by_recursion_push WellFormed so.pieces f.piece so.each f.well;
      spans = subst (λ u. Spans s p u (place.to + 1)) (sym written) (spans_on _ _ _ _ _ _ so.spans (spans_on _ _ _ _ _ _ f.spans byte));
      counted = counted_push s p x f.piece so;
      filled = filled_push s p x f.piece place so here.0 f.spans;
      far = omega (arith, so.far, f.spans.far);
    }

-- the record is all that was read
begins_end : (s : List ℕ) (p : ℕ) (x : Record) (e n : ℕ) → p < length s → (so : SoFar s p x) → (f : FieldFound s x.next e)
    → Follows s e (End n)
    → Begins (drop p s) (so.pieces ++ f.piece ∷ []) (drop n s) × (n ≤ length s)
begins_end s p x e n low so f end =
    let u = led (raws so.pieces) ++ f.piece.raw in
    let whole = spans_on _ _ _ _ _ _ so.spans f.spans in
    let written = sym (commaed_raws so.pieces f.piece) in
    let row = row_push so.pieces f.piece so.each f.well in
    let begun : 0 < length (drop p s) = omega (arith, length-drop p s) in
    ⊎_elim
    (λ (z : (e ≡ length s) × (n ≡ e)).
    let nothing = drop_all e s (omega arith) in (
      record { begun = begun; row = row; ended = inr (whole.splits ∙ ap (λ l. u ++ l) nothing ∙ append-nil u ∙ written, drop_all n s (omega arith)) },
      omega arith,
    ))
    (λ (z : HasCrlf s e × (n ≡ e + 2)).
    let crlf = (spans_two s e 13 10 z.0.0 z.0.1 z.0.2).splits ∙ ap (λ (i : ℕ). 13 ∷ 10 ∷ drop i s) (sym z.1) in (
      record { begun = begun; row = row; ended = inl (whole.splits ∙ ap (λ l. u ++ l) crlf ∙ ap (λ l. l ++ 13 ∷ 10 ∷ drop n s) written) },
      omega (arith, z.0.0),
    ))
    end

-- the record is read to its end
pub reads_end : (s : List ℕ) (p : ℕ) (x : Record) (place : Field) (n : ℕ) → p < length s → SoFar s p x
    → (place.from ≡ x.next) × FieldRun s x.next place.to → Follows s place.to (End n)
    → Reads s p (record { fields = set x.fields x.count place; count = x.count + 1; next = n })
reads_end s p x place n low so here end =
    let f = field_found s x.next place.to here.1 in
    let fs = so.pieces ++ f.piece ∷ [] in
    let b = begins_end s p x place.to n low so f end in
    let m = length s - length (drop n s) in
    let next : m ≡ n = omega (arith, length-drop n s, b.1) in
    let y : Record = record { fields = set x.fields x.count place; count = x.count + 1; next = n } in
    let found : y ≡ record_of p (raws fs) m =
    λ i. record {
      fields = filled_push s p x f.piece place so here.0 f.spans i;
      count = counted_push s p x f.piece so i;
      next = sym next i;
    } in
    record {
      pieces = fs;
      rest = drop n s;
      begins = b.0;
      found = found;
      columns = ap (columns_of s) found ∙ columns_of-record_of s p m fs (drop n s) b.0;
    }

-- a quoted field breaks off
pub stops_quoted : (s : List ℕ) (p : ℕ) (x : Record) (k : ℕ) → SoFar s p x → QuotedBreak s x.next k → StopsAt s p k
stops_quoted s p x k so b =
    let u = led (raws so.pieces) ++ 34 ∷ doubled b.value in
    let way : run start u ≡ inside = run_behind so.pieces (34 ∷ doubled b.value) so.each ∙ inside-doubled b.value b.each in
    let whole : Piece = record { raw = 34 ∷ doubled b.value ++ 34 ∷ []; content = b.value } in
    let same : (led (raws so.pieces) ++ whole.raw) ++ 13 ∷ 10 ∷ [] ≡ u ++ 34 ∷ 13 ∷ 10 ∷ [] = simp append_assoc in
    stops_jammed s p k u (record {
      spans = spans_on _ _ _ _ _ _ so.spans b.spans;
      stops = λ lt. ap (λ q. step q (get_or s k 0)) way ∙ inside_stops _ (b.stops lt);
      missing = λ _ on. subst Live way on;
      goes = (34 ∷ 13 ∷ 10 ∷ [], subst Text same (row_text so.pieces whole so.each (quoted b.each)));
    })

-- a byte that cannot stand behind a field
stops_byte : (s : List ℕ) (p : ℕ) (x : Record) (e : ℕ) → SoFar s p x → FieldFound s x.next e → e < length s → get_or s e 0 ≢ 44
    → get_or s e 0 ≢ 13 → StopsAt s p e
stops_byte s p x e so f lt c r =
    stops_jammed s p e (led (raws so.pieces) ++ f.piece.raw) (record {
      spans = spans_on _ _ _ _ _ _ so.spans f.spans;
      stops = λ _. ap (λ q. step q (get_or s e 0)) (run_behind so.pieces f.piece.raw so.each) ∙ f.stops lt c r;
      missing = λ z. absurd (omega arith);
      goes = (13 ∷ 10 ∷ [], row_text so.pieces f.piece so.each f.well);
    })

-- a CR without its LF
stops_return : (s : List ℕ) (p : ℕ) (x : Record) (e : ℕ) → SoFar s p x → FieldFound s x.next e → e < length s → get_or s e 0 ≡ 13
    → (HasCrlf s e → ⊥) → StopsAt s p (e + 1)
stops_return s p x e so f lt c no' =
    let u = led (raws so.pieces) ++ f.piece.raw in
    let way : run start (u ++ 13 ∷ []) ≡ returned =
    run-append start u (13 ∷ []) ∙ ap (λ q. step q 13) (run_behind so.pieces f.piece.raw so.each)
    ∙ return_returns _ (field_open f.piece.raw f.piece.content f.well) in
    stops_jammed s p (e + 1) (u ++ 13 ∷ []) (record {
      spans = spans_on _ _ _ _ _ _ (spans_on _ _ _ _ _ _ so.spans f.spans) (spans_byte s e 13 lt c);
      stops = λ l. ap (λ q. step q (get_or s (e + 1) 0)) way ∙ returned_stops _ (λ lf. no' (l, c, lf));
      missing = λ _ on. subst Live way on;
      goes = (10 ∷ [], subst Text (sym (append_assoc u (13 ∷ []) (10 ∷ []))) (row_text so.pieces f.piece so.each f.well));
    })

pub stops_behind : (s : List ℕ) (p : ℕ) (x : Record) (e k : ℕ) → SoFar s p x → FieldRun s x.next e → Follows s e (Impossible k)
    → StopsAt s p k
stops_behind s p x e k so here bad =
    let f = field_found s x.next e here in
    ⊎_elim
    (λ (z : (k ≡ e) × (e < length s) × (get_or s e 0 ≢ 44) × (get_or s e 0 ≢ 13)). subst (StopsAt s p) (sym z.0) (stops_byte s p x e so f z.1 z.2 z.3))
    (λ (z : (k ≡ e + 1) × (e < length s) × (get_or s e 0 ≡ 13) × (HasCrlf s e → ⊥)). subst (StopsAt s p) (sym z.0) (stops_return s p x e so f z.1 z.2 z.3))
    bad

pub breaks_from : (s : List ℕ) (p k n : ℕ) → StopsAt s p k → n ≡ resumed s k → Breaks s p (record { offset = k - p; next = n })
breaks_from s p k n h e =
    let same : p + (k - p) ≡ k = omega (arith, h.low) in
    record { stops = h.stops; next = e ∙ ap (resumed s) (sym same) }

-- where the grammar has a record, it is the one that is read
pub exact_reads : (s : List ℕ) (p : ℕ) (x : Record) (pieces : List Piece) (rest : List ℕ) → Reads s p x → Begins (drop p s) pieces rest
    → x ≡ record_of p (raws pieces) (length s - length rest)
exact_reads s p x pieces rest h b =
    let same = begins_same _ _ _ _ _ h.begins b in
    h.found ∙ (λ i. record_of p (raws (same.0 i)) (length s - length (same.1 i)))
