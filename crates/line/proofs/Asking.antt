-- What a standing line answers of a window and of the ring, where it agrees with what was heard.
use Rattle.std.specs.Prelude.{◌≡◌, ℕ, zero, suc, ◌-◌, ◌≤◌, true, not, List, [], ◌∷◌, Option, None, Result, Ok, Err, IfOk, length, take, drop, refl}
use Rattle.std.proofs.Common.{sym, ◌∙◌, ap, subst, arith}
use Rattle.std.proofs.lemmas.List.{take_all}
use Rattle.refusal.specs.declared.Refusal.{Refusal}
use Rattle.station.specs.declared.record.Station.{Station}
use Rattle.kind.specs.declared.figures.Figures.{Figures}
use Rattle.kind.specs.Laws.{KindOps}
use Rattle.kind.specs.Meaning.{Meaning, Meant}
use Rattle.kind.specs.Stretch.{takes_all, joined_all}
use Rattle.tree.specs.Gathered.{stretch, StandsForTaken, WindowLaws}
use Rattle.line.specs.declared.rooms.Rooms.{Rooms}
use Rattle.line.specs.declared.lines.Standing.{Standing}
use Rattle.line.specs.declared.request.Request.TheVariants.{Ask, Ring}
use Rattle.line.specs.declared.reply.Answer.{Answer}
use Rattle.line.specs.View.{Heard, heard_on}
use Rattle.line.specs.State.{State, rooms, count_of}
use Rattle.line.specs.Refused.{ask_refusal, ring_refusal}
use Rattle.line.specs.Replies.{reply_of_answer, took}
use Rattle.line.specs.Calls.{AskCall, RingCall, gathered, joining_of}
use Rattle.line.specs.Agreement.{trial_of, Stands}
use Rattle.line.specs.Due.{AnswerLaw, WindowAnswer, RingAnswer, Follows}
use Rattle.line.proofs.Replying.{ok_means, where_ok, answer_right}

module _ {E C : Type 0} (o : KindOps E C) where
  taken_take : (n : ℕ) (xs : List Station) → takes_all o xs ≡ true → takes_all o (take n xs) ≡ true
  taken_take zero xs all = refl
  taken_take (suc n) [] all = refl
  taken_take (suc n) (x ∷ xs) all = grind (arith, all, taken_take n xs (grind (arith, all)))

  taken_drop : (n : ℕ) (xs : List Station) → takes_all o xs ≡ true → takes_all o (drop n xs) ≡ true
  taken_drop zero xs all = all
  taken_drop (suc n) [] all = refl
  taken_drop (suc n) (x ∷ xs) all = taken_drop n xs (grind (arith, all))

  taken_stretch : (xs : List Station) (from to : ℕ) → takes_all o xs ≡ true → takes_all o (stretch xs from to) ≡ true
  taken_stretch xs from to all = taken_take (to - (from - 1)) (drop (from - 1) xs) (taken_drop (from - 1) xs all)

  -- a ring that is not refused has enough stations
  long_enough : (n : ℕ) (trial : Option ℕ) (rs : Rooms) → ring_refusal o n trial rs ≡ None → o.shortest ≤ n
  long_enough n trial rs passed = grind (arith, passed)

  -- the ring's stations are all of them
  stretch_whole : (xs : List Station) → stretch xs 1 (length xs) ≡ xs
  stretch_whole xs = let n : length xs - 0 ≡ length xs = omega arith in ap (λ k. take k xs) n ∙ take_all (length xs) xs (omega arith)

  module _ {K : Type 0} (m : Meaning) (meant : Meant o m) where
    -- a window's answer, with what its figures mean
    answer_law : (shows : E → Figures) (means : List Station → Figures) (s : State (Standing K) C) (h : Heard) → Stands o h s
        → (from to : ℕ) (a : Answer E)
        → WindowLaws o (count_of s.line) s.nodes from to (gathered a) → a.figures ≡ shows a.element
        → (a.element ≡ joined_all o (stretch h.view.standing from to) → shows a.element ≡ means (stretch h.view.standing from to))
        → AnswerLaw o shows means (length h.view.standing) from to (stretch h.view.standing from to) a
    answer_law shows means s h as_heard from to a laws figures meaning =
        let xs = h.view.standing in
        let at : StandsForTaken o (count_of s.line) s.nodes from to xs =
        record { long = sym as_heard.number; stands = as_heard.nodes; taken = taken_stretch xs from to as_heard.taken } in
        let same : WindowLaws o (length xs) s.nodes from to (gathered a) = rw (← as_heard.number) laws in
        record {
          joined = laws.joined xs at;
          from_empty = laws.from_empty xs at;
          figures = figures;
          meant = figures ∙ meaning (laws.from_empty xs at);
          joins = same.joins;
        }

    ask_due : (from to : ℕ) (s : State (Standing K) C) (h : Heard) → Stands o h s
        → ask_refusal (count_of s.line) s.line.trial (rooms s) from to ≡ ask_refusal (length h.view.standing) (trial_of h) (rooms s) from to
    ask_due from to s h agrees =
        ap (λ n. ask_refusal n s.line.trial (rooms s) from to) agrees.number ∙ ap (λ t. ask_refusal (length h.view.standing) t (rooms s) from to) agrees.trial

    ring_due : (s : State (Standing K) C) (h : Heard) → Stands o h s
        → ring_refusal o (count_of s.line) s.line.trial (rooms s) ≡ ring_refusal o (length h.view.standing) (trial_of h) (rooms s)
    ring_due s h agrees =
        ap (λ n. ring_refusal o n s.line.trial (rooms s)) agrees.number ∙ ap (λ t. ring_refusal o (length h.view.standing) t (rooms s)) agrees.trial

    -- an accepted ask, and an accepted ring
    pub ask_answer : (from to : ℕ) (s : State (Standing K) C) (r : Result (Answer E) Refusal) → AskCall o from to s r → (h : Heard) → Stands o h s
        → IfOk r (WindowAnswer o m h from to)
    ask_answer from to s (Err e) call h agrees = tt
    ask_answer from to s (Ok a) call h agrees =
        let xs = stretch h.view.standing from to in
        answer_law o.window m.window s h agrees from to a call.laws call.figures
        (λ is. meant.window a.element xs (taken_stretch h.view.standing from to agrees.taken) is)

    pub ring_answer : (s : State (Standing K) C) (r : Result (Answer E) Refusal) → RingCall o s r → (h : Heard) → Stands o h s → IfOk r (RingAnswer o m h)
    ring_answer s (Err e) call h agrees = tt
    ring_answer s (Ok a) call h agrees =
        let xs = h.view.standing in
        let (none, same) = ok_means (ring_refusal o (count_of s.line) s.line.trial (rooms s)) _ (joining_of a) call.answer in
        let laws : WindowLaws o (count_of s.line) s.nodes 1 (length xs) (gathered a) =
        subst (λ n. WindowLaws o (count_of s.line) s.nodes 1 n (gathered a)) agrees.number call.laws in
        let long = long_enough (length xs) (trial_of h) (rooms s) (sym (ring_due s h agrees) ∙ none) in
        let all = stretch_whole xs in
        subst (λ ys. AnswerLaw o o.ring m.ring (length xs) 1 (length xs) ys a) all
        (answer_law o.ring m.ring s h agrees 1 (length xs) a laws call.figures
        (λ is. meant.ring a.element (stretch xs 1 (length xs)) (taken_stretch xs 1 (length xs) agrees.taken) (omega (arith, long, ap length all)) is))

    pub ask_law : (from to : ℕ) (s : State (Standing K) C) (r : Result (Answer E) Refusal) → AskCall o from to s r → (h : Heard) → Stands o h s
        → Follows o m (rooms s) h (Ask from to) (reply_of_answer o r) (λ after. Stands o after s)
    ask_law from to s r call h agrees = record {
      right = answer_right o m (rooms s) h (Ask from to) joining_of r _ _ call.answer (ap not agrees.closed) (ask_due from to s h agrees)
          (where_ok r (λ a law none. (a, refl, law)) (ask_answer from to s r call h agrees));
      after = after r;
    } where
      after : (r : Result (Answer E) Refusal) → Stands o (heard_on h (Ask from to) (took (reply_of_answer o r))) s
      after (Ok a) = agrees
      after (Err e) = agrees

    pub ring_law : (s : State (Standing K) C) (r : Result (Answer E) Refusal) → RingCall o s r → (h : Heard) → Stands o h s
        → Follows o m (rooms s) h Ring (reply_of_answer o r) (λ after. Stands o after s)
    ring_law s r call h agrees = record {
      right = answer_right o m (rooms s) h Ring joining_of r _ _ call.answer (ap not agrees.closed) (ring_due s h agrees)
          (where_ok r (λ a law none. (a, refl, law)) (ring_answer s r call h agrees));
      after = after r;
    } where
      after : (r : Result (Answer E) Refusal) → Stands o (heard_on h Ring (took (reply_of_answer o r))) s
      after (Ok a) = agrees
      after (Err e) = agrees
