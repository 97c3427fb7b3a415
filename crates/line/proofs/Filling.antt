-- A filling line that agrees with what was heard: add leaves one, and close leaves one or makes a standing line of it.
use Rattle.std.specs.Prelude.{◌≡◌, ℕ, ◌+◌, ◌-◌, ◌^◌, ◌<◌, true, List, [], ◌∷◌, ◌++◌, None, Result, Ok, Err, length, take, slice_set, refl}
use Rattle.std.proofs.Common.{sym, ◌∙◌, ap, subst, arith, Bor}
use Rattle.std.proofs.lemmas.List.{length-append, take_more_set}
use Rattle.refusal.specs.declared.Refusal.{Refusal}
use Rattle.station.specs.declared.record.Station.{Station}
use Rattle.kind.specs.Laws.{KindOps}
use Rattle.kind.specs.Meaning.{Meaning}
use Rattle.kind.specs.Stretch.{takes_all}
use Rattle.tree.specs.Shape.{height, node_count}
use Rattle.tree.specs.Nodes.{StandsFor, SameTo}
use Rattle.tree.proofs.Standing.{same_nodes}
use Rattle.line.specs.declared.rooms.Rooms.{Rooms}
use Rattle.line.specs.declared.values.Values.{Values}
use Rattle.line.specs.declared.lines.Filling.{Filling}
use Rattle.line.specs.declared.lines.Standing.{Standing}
use Rattle.line.specs.declared.request.Request.TheVariants.{Add, Close}
use Rattle.line.specs.declared.reply.Reply.TheVariants.{Done}
use Rattle.line.specs.View.{Heard, made, heard_on}
use Rattle.line.specs.Refused.{add_refusal, close_refusal}
use Rattle.line.specs.Replies.{reply_of, close_reply, took}
use Rattle.line.specs.Calls.{AddCall, CloseCall}
use Rattle.line.specs.Agreement.{trial_with, TrialIs, Fills, FilledNew}
use Rattle.line.specs.Due.{RightReply, Follows, LeftByClose}
use Rattle.line.proofs.Replying.{ok_means, on_ok, plain_right}

module _ {E C : Type 0} (o : KindOps E C) where
  takes_more : (xs : List Station) (x : Station) → takes_all o xs ≡ true → o.takes x ≡ true → takes_all o (xs ++ x ∷ []) ≡ true
  takes_more [] x all one = grind (arith, one)
  takes_more (y ∷ xs) x all one = grind (arith, all, takes_more xs x (grind (arith, all)) one)

  -- what an add that is not refused has found
  added : (n room : ℕ) (label : List ℕ) (x : Station) → add_refusal o n room label x ≡ None → (n < room) × (o.takes x ≡ true)
  added n room label x passed = (grind (arith, passed), grind (arith, passed))

  module _ {K : Type 0} where
    -- the nodes of a line that was filled new
    new_stands : (xs : List Station) (nodes : List C) → FilledNew o K xs nodes → StandsFor o xs nodes
    new_stands xs nodes new =
        let stands : StandsFor o (take new.line.stations new.list) nodes = on_ok new.result new.accepted new.closes.nodes in
        rw (← new.same, ← new.fills.listed) stands

    pub any_today : (xs : List Station) (nodes : List C) → StandsFor o xs nodes → (other : List C) → FilledNew o K xs other
        → SameTo (node_count (height (length xs))) nodes other
    any_today xs nodes stands other new = same_nodes o (height (length xs)) xs nodes other stands (new_stands xs other new)

    module _ (m : Meaning) where
      pub add_law : (label : Bor (List ℕ)) (v : Values) (line : Filling K) (list : List Station) (r : Result ℕ Refusal) (line' : Filling K) (list' : List Station)
          → AddCall o label.now v line list r line' list' → (h : Heard) (rooms : Rooms) → rooms.list ≡ length list → Fills o h line list
          → Follows o m rooms h (Add label v) (reply_of r) (λ after. Fills o after line' list')
      add_law label v line list r line' list' call h rooms room as_heard = record {
        right = plain_right o m rooms h (Add label v) r _ _ call.answer as_heard.unclosed due (ap (λ n. Done (n + 1)) as_heard.number);
        after = with_it r call;
      } where
        x : Station
        x = made label.now v

        due : add_refusal o line.stations (length list) label.now x ≡ add_refusal o (length h.view.standing) rooms.list label.now x
        due = ap (λ n. add_refusal o n (length list) label.now x) as_heard.number ∙ ap (λ k. add_refusal o (length h.view.standing) k label.now x) (sym room)

        with_it : (r : Result ℕ Refusal) → AddCall o label.now v line list r line' list'
            → Fills o (heard_on h (Add label v) (took (reply_of {C = C} r))) line' list'
        with_it (Err e) call = rw (call.refused.0, call.refused.1) as_heard
        with_it (Ok n) call =
            let (none, same) = ok_means _ _ n call.answer in
            let (room, taken) = added line.stations (length list) label.now x none in
            let number : line'.stations ≡ length (h.view.standing ++ x ∷ []) = omega (arith, call.count, as_heard.number, length-append h.view.standing (x ∷ [])) in
            record {
              unclosed = as_heard.unclosed;
              number = number;
              listed = ap (take line'.stations) call.list ∙ ap (λ n. take n (slice_set list line.stations x)) call.count
                  ∙ take_more_set list line.stations x room ∙ ap (λ l. l ++ x ∷ []) as_heard.listed;
              taken = takes_more h.view.standing x as_heard.taken taken;
              fresh = as_heard.fresh;
              none = as_heard.none;
            }

      pub close_law : (line : Filling K) (list : List Station) (old : List C) (r : Result (Standing K × ℕ) (Filling K × Refusal)) (new : List C)
          → CloseCall o line list old r new → (h : Heard) (rooms : Rooms) → rooms.list ≡ length list → rooms.nodes ≡ length old → Fills o h line list
          → Follows o m rooms h Close (close_reply r) (LeftByClose o list new r)
      close_law line list old r new call h rooms room many as_heard = record {
        right = right r call;
        after = with_it r call;
      } where
        due : close_refusal line.stations (length list) (length old) ≡ close_refusal (length h.view.standing) rooms.list rooms.nodes
        due =
            ap (λ n. close_refusal n (length list) (length old)) as_heard.number ∙ ap (λ k. close_refusal (length h.view.standing) k (length old)) (sym room)
            ∙ ap (close_refusal (length h.view.standing) rooms.list) (sym many)

        right : (r : Result (Standing K × ℕ) (Filling K × Refusal)) → CloseCall o line list old r new → RightReply o m rooms h Close (close_reply r)
        right (Ok given) call = plain_right o m rooms h Close (Ok given.1) _ _ call.answer as_heard.unclosed due (ap (λ n. Done (2 ^ height n - 1)) as_heard.number)
        right (Err back) call = plain_right o m rooms h Close (Err back.1) _ _ call.answer as_heard.unclosed due (ap (λ n. Done (2 ^ height n - 1)) as_heard.number)

        with_it : (r : Result (Standing K × ℕ) (Filling K × Refusal)) → CloseCall o line list old r new
            → LeftByClose o list new r (heard_on h Close (took (close_reply {C = C} r)))
        with_it (Err back) call = rw call.refused.0 as_heard
        with_it (Ok given) call = λ journal.
            let (kind, count, trial) = call.line in
            let stands : StandsFor o h.view.standing new = rw (← as_heard.listed) call.nodes in
            record {
              closed = refl;
              number = count ∙ as_heard.number;
              listed = ap (λ n. take n list) count ∙ as_heard.listed;
              taken = as_heard.taken;
              nodes = stands;
              today = any_today h.view.standing new stands;
              trial = trial ∙ sym (ap (λ t. trial_with t h.entries) as_heard.fresh);
              entries = subst (λ t. TrialIs o h.view.standing t h.entries journal) (sym as_heard.fresh) as_heard.none;
            }
