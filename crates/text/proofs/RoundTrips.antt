-- What was written reads back: the fields of a station's record, the record, and the list.
use Rattle.std.proofs.Common.{◌≡◌, ℕ, ◌-◌, Bool, true, false, not, cond, List, [], ◌∷◌, ◌++◌, length, drop, slice_index_or, codes, Ok, sym, refl, ap, ◌∙◌, subst, inl, append_assoc, arith, length-append}
use Rattle.std.specs.Fmt.{decimal}
use Rattle.std.specs.List.{AllByRecursion, list_any}
use Rattle.std.proofs.lemmas.Bool.{and_parts}
use Rattle.std.proofs.lemmas.List.{drop_at}
use Rattle.refusal.specs.Refusals.{first, answered}
use Rattle.station.proofs.Labelling.{label_legal, label_put}
use Rattle.station.specs.declared.record.Station.{Station}
use Rattle.station.specs.Labels.{label_of, legal, printables, padded, station_with}
use Rattle.station.specs.Same.{Same}
use Rattle.station.specs.Words.{status_word}
use Rattle.text.specs.declared.record.Record.{Record}
use Rattle.text.specs.Grammar.{Quotable, doubled, IsField, plain, quoted, Piece, raws, contents, commaed, Row, Begins, Text, none, more}
use Rattle.text.specs.Places.{record_of}
use Rattle.text.specs.Reading.{Reads}
use Rattle.text.specs.Adding.{StationIs}
use Rattle.text.specs.Columns.{column}
use Rattle.text.specs.RoundTrip.{GivesBack, ReadsBack}
use Rattle.text.specs.StationText.{is_mark, label_text, station_columns, station_text, stations_text}
use Rattle.text.specs.Stored.{Stored}
use Rattle.text.proofs.Meaning.{columns_of-record_of}
use Rattle.text.specs.declared.words.Verb.TheVariants as verbs
use Rattle.text.proofs.Quoting.{Plains, plain_verb, plain_status, plain_decimal}

begins_reads : (s : List ℕ) (p : ℕ) (pieces : List Piece) (rest : List ℕ) → Begins (drop p s) pieces rest
    → Reads s p (record_of p (raws pieces) (length s - length rest))
begins_reads s p pieces rest b =
    record { pieces = pieces; rest = rest; begins = b; found = refl; columns = columns_of-record_of s p (length s - length rest) pieces rest b }

-- a label's bytes are plain where none is a mark, and quotable in any case
plain_label : (v : List ℕ) → printables v ≡ true → list_any is_mark v ≡ false → Plains v
plain_label [] p m = tt
plain_label (b ∷ v) p m = grind (arith, plain_label v)

quotable_label : (v : List ℕ) → printables v ≡ true → AllByRecursion Quotable v
quotable_label [] p = tt
quotable_label (b ∷ v) p = grind (arith, quotable_label v)

label_field : (v : List ℕ) → printables v ≡ true → IsField (label_text v) v
label_field v p = by_marks (list_any is_mark v) refl
  where
    by_marks : (m : Bool) → list_any is_mark v ≡ m → IsField (cond m (34 ∷ doubled v ++ 34 ∷ []) v) v
    by_marks true e = quoted (quotable_label v p)
    by_marks false e = plain (plain_label v p e)

station_pieces : Station → List Piece
station_pieces x =
    record { raw = codes "add"; content = codes "add" }
    ∷ record { raw = label_text (label_of x.label); content = label_of x.label }
    ∷ record { raw = status_word x.status; content = status_word x.status }
    ∷ record { raw = decimal x.up; content = decimal x.up }
    ∷ record { raw = decimal x.down; content = decimal x.down }
    ∷ []

stored_label : (x : Station) → Stored x → legal (label_of x.label) ≡ true
stored_label x h = label_legal x.label h.room

station_row : (x : Station) → Stored x → Row (station_pieces x)
unfolding station_pieces
station_row x h = (
  omega arith,
  (
    plain (plain_verb verbs.Add),
    (
      label_field (label_of x.label) (and_parts _ _ (stored_label x h)).1,
      (plain (plain_status x.status), (plain (plain_decimal x.up h.up_fits), (plain (plain_decimal x.down h.down_fits), tt))),
    ),
  ),
)

-- a station's text is a record with these fields, and whatever follows is behind it
station_begins : (x : Station) (rest : List ℕ) → Stored x → Begins (station_text x ++ rest) (station_pieces x) rest
unfolding station_pieces
station_begins x rest h = record {
  begun = omega arith;
  row = station_row x h;
  ended = inl (append_assoc (commaed (station_columns x)) (13 ∷ 10 ∷ []) rest);
}

-- the columns of a record that was found in a station's place say what the station has, and make one that is the same
station_made_back : (s : List ℕ) (x : Station) (r : Record) → Stored x → r.count ≡ 5
    → column s r 0 ∷ column s r 1 ∷ column s r 2 ∷ column s r 3 ∷ column s r 4 ∷ [] ≡ contents (station_pieces x)
    → (made : Station) × StationIs s r (Ok made) × Same made x
unfolding station_pieces
station_made_back s x r h five cols =
    let label : column s r 1 ≡ label_of x.label = ap (λ l. slice_index_or l 1 []) cols in
    let good = stored_label x h in
    let made : Station = station_with (column s r 1) x.status x.up x.down in (
      made,
      record {
        status = x.status;
        up = x.up;
        down = x.down;
        says = (
          (ap (λ l. slice_index_or l 0 []) cols, five),
          (
            ap (λ l. slice_index_or l 2 []) cols,
            (h.up_fits, ap (λ l. slice_index_or l 3 []) cols),
            (h.down_fits, ap (λ l. slice_index_or l 4 []) cols),
          ),
        );
        made = ap (λ t. answered (first ((not t, 4) ∷ [])) made) (ap legal label ∙ good);
      },
      record {
        label = ap (λ (v : List ℕ). label_of (padded v)) label ∙ label_put (label_of x.label) (24 - length (label_of x.label)) (and_parts _ _ good).1;
        status = refl;
        up = refl;
        down = refl;
      },
    )

-- at the end of a front a station's text gives it back, and what follows is behind the record
record BackAt (front rest : List ℕ) (x : Station) : Type 0 where
  pub given : GivesBack (front ++ (station_text x ++ rest)) (length front) x
  pub next : given.found.next ≡ length (front ++ station_text x)

back_at : (front rest : List ℕ) (x : Station) → Stored x → BackAt front rest x
unfolding station_pieces
back_at front rest x h =
    let s = front ++ (station_text x ++ rest) in
    let here : drop (length front) s ≡ station_text x ++ rest = drop_at front (station_text x ++ rest) (length front) refl in
    let begins : Begins (drop (length front) s) (station_pieces x) rest =
    subst (λ l. Begins l (station_pieces x) rest) (sym here) (station_begins x rest h) in
    let next : ℕ = length s - length rest in
    let found : Record = record_of (length front) (raws (station_pieces x)) next in
    let back = station_made_back s x found h refl (columns_of-record_of s (length front) next (station_pieces x) rest begins) in
    record {
      given = record {
        found = found;
        outcome = begins_reads s (length front) (station_pieces x) rest begins;
        made = back.0;
        makes = back.1;
        same = back.2;
      };
      next = omega (arith, length-append front (station_text x ++ rest), length-append (station_text x) rest, length-append front (station_text x));
    }

reads_behind : (front : List ℕ) (xs : List Station) → AllByRecursion Stored xs → ReadsBack (front ++ stations_text xs) (length front) xs
reads_behind front [] h = omega (arith, length-append front [])
reads_behind front (x ∷ xs) h =
    let b = back_at front (stations_text xs) x h.0 in
    let others : ReadsBack (front ++ (station_text x ++ stations_text xs)) (length (front ++ station_text x)) xs =
    subst (λ s. ReadsBack s (length (front ++ station_text x)) xs) (append_assoc front (station_text x) (stations_text xs))
    (reads_behind (front ++ station_text x) xs h.1) in
    (b.given, subst (λ (p : ℕ). ReadsBack (front ++ (station_text x ++ stations_text xs)) p xs) (sym b.next) others)

-- from its first byte on
pub reads_back : (xs : List Station) → AllByRecursion Stored xs → ReadsBack (stations_text xs) 0 xs
reads_back xs h = reads_behind [] xs h

-- the written text is one of the grammar
pub stations_are_text : (xs : List Station) → AllByRecursion Stored xs → Text (stations_text xs)
stations_are_text [] h = none
stations_are_text (x ∷ xs) h = more (station_begins x (stations_text xs) h.0) (stations_are_text xs h.1)
