-- What a gathered window answers, where it is not refused: its element and its joins, by blocks and by stations.
use Rattle.std.specs.Prelude.{◌≡◌, ℕ, ◌-◌, ◌≤◌, List, Option, Some, None, Result, Ok, Err, length, refl}
use Rattle.std.proofs.Common.{sym, ◌∙◌, ap, arith}
use Rattle.refusal.specs.declared.Refusal.{Refusal}
use Rattle.refusal.specs.Refusals.{by_number_as, answered}
use Rattle.station.specs.declared.record.Station.{Station}
use Rattle.kind.specs.Laws.{KindOps, KindLaws}
use Rattle.tree.specs.declared.gathered.Joining.{Joining}
use Rattle.tree.specs.declared.gathered.Gathered.{Gathered}
use Rattle.tree.specs.Shape.{height, node_count}
use Rattle.tree.specs.Blocks.{blocks}
use Rattle.tree.specs.Gathered.{nothing, window_joining, joining_refusal, as_joining, stretch, joined_stations, StandsForTaken, WindowLaws}
use Rattle.tree.proofs.Heights.{stations_fit}
use Rattle.tree.proofs.BlockCounts.{few_blocks, some_block}
use Rattle.tree.proofs.Counting.{window_counted, element-nodes_joined}
use Rattle.tree.proofs.Blocks.{lists_largest, cuts_up}
use Rattle.tree.proofs.Joining.{total}
use Rattle.tree.proofs.Windows.{window_joined, joined_from_empty}

-- a value stands where nothing refuses
pub not_refused : {A B : Type 0} (r : Option ℕ) (u : B) (v : A) → Ok u ≡ answered r u → Ok v ≡ answered r v
not_refused None u v is = refl
not_refused (Some n) u v is = grind (arith, is)

-- a joining with an element is the answer
finished : {E : Type 0} (r : Result (Gathered E) Refusal) (s : Joining E) (e : E) (m : ℕ) → s ≡ record { element = Some e; joins = m }
    → by_number_as as_joining r ≡ answered (joining_refusal s.element) s → r ≡ Ok (record { element = e; joins = m })
finished (Ok g) s e m is at = grind (arith, at ∙ ap (λ t. answered (joining_refusal t.element) t) is)
finished (Err x) s e m is at = grind (arith, at ∙ ap (λ t. answered (joining_refusal t.element) t) is)

module _ {E C : Type 0} (o : KindOps E C) (n : ℕ) (nodes : List C) (first last : ℕ) where
  window_laws : (e : E) (m : ℕ) → KindLaws o → 1 ≤ first → first ≤ last → last ≤ n
      → window_joining o n nodes first last ≡ record { element = Some e; joins = m } → m ≡ length (blocks (height n) first last) - 1
      → WindowLaws o n nodes first last (record { element = e; joins = m })
  window_laws e m laws low order high is many =
      let bs = blocks (height n) first last in
      let some = some_block (height n) first last low order (omega (arith, stations_fit n)) in
      let element : Some e ≡ total o laws.joining nodes bs = ap (λ (s : Joining E). s.element) (sym is) ∙ element-nodes_joined o nodes nothing bs in
      let joined : (xs : List Station) → StandsForTaken o n nodes first last xs → Some e ≡ joined_stations o (stretch xs first last) = λ xs at.
      let h = height (length xs) in
      let few = stations_fit (length xs) in
      let long = at.long in
      element ∙ rw (← long) (window_joined o laws.joining h first last xs nodes at.stands low order (omega arith) few at.taken) in
      record {
        joins = record {
          listed = lists_largest (height n) first last;
          one_less = omega (arith, many, some);
          few = omega (arith, many, few_blocks (height n) first last);
        };
        pieces = cuts_up (height n) first last;
        joined = joined;
        from_empty = λ xs at. joined_from_empty o laws e _ at.taken (joined xs at);
      }

  -- a window that is there has an answer, with its laws
  pub window_answer : (r : Result (Gathered E) Refusal) → KindLaws o → node_count (height n) ≤ length nodes → 1 ≤ first → first ≤ last → last ≤ n
      → by_number_as as_joining r ≡ answered (joining_refusal (window_joining o n nodes first last).element) (window_joining o n nodes first last)
      → (g : Gathered E) × (r ≡ Ok g) × (as_joining g ≡ window_joining o n nodes first last) × WindowLaws o n nodes first last g
  window_answer r laws room low order high at =
      let (e, is) = window_counted o nodes (height n) first last low order (omega (arith, stations_fit n)) room in
      (_, finished r (window_joining o n nodes first last) e _ is at, sym is, window_laws e _ laws low order high is refl)
