-- A standing line that agrees with what was heard: set, try, keep and back leave one, and reply what is due.
use Rattle.std.specs.Prelude.{◌≡◌, ℕ, ◌-◌, ◌<◌, ◌≤◌, Bool, true, false, not, ◌&&◌, List, [], ◌∷◌, Option, Some, None, Result, Ok, Err, unwrap_or, length, take, nat_le, slice_get, refl}
use Rattle.std.proofs.Common.{sym, ◌∙◌, ap, subst, arith}
use Rattle.std.proofs.lemmas.List.{length-set, take_more_set}
use Rattle.refusal.specs.declared.Refusal.{Refusal}
use Rattle.refusal.specs.Refusals.{first}
use Rattle.station.specs.declared.record.Station.{Station}
use Rattle.kind.specs.Laws.{KindOps}
use Rattle.kind.specs.Meaning.{Meaning}
use Rattle.kind.specs.Stretch.{takes_all}
use Rattle.tree.specs.Shape.{height}
use Rattle.tree.specs.Nodes.{StandsFor}
use Rattle.tree.proofs.Lists.{slice_get_some}
use Rattle.tree.specs.Refused.{no_window}
use Rattle.line.specs.declared.rooms.Rooms.{Rooms}
use Rattle.line.specs.declared.values.Values.{Values}
use Rattle.line.specs.declared.values.Entry.{Entry}
use Rattle.line.specs.declared.lines.Standing.{Standing}
use Rattle.line.specs.declared.request.Request.TheVariants.{Set, Try, Keep, Back}
use Rattle.line.specs.declared.reply.Reply.TheVariants.{Done}
use Rattle.line.specs.View.{Heard, values_of, put, counted, heard_on}
use Rattle.line.specs.State.{State, at, rooms, rooms_of, count_of, in_trial, entries_of, noted, undone}
use Rattle.line.specs.Refused.{lacks_room, takes_at, any_bad, set_refusal, try_refusal, keep_refusal, back_refusal}
use Rattle.line.specs.Replies.{reply_of, took}
use Rattle.line.specs.Calls.{SetCall, TryCall, KeepCall, BackCall, one_more, entered}
use Rattle.line.specs.Agreement.{trial_with, trial_of, Recalls, TrialIs, Stands}
use Rattle.line.specs.Due.{Follows}
use Rattle.line.proofs.Placing.{get_take, put_take}
use Rattle.line.proofs.Recalling.{inside, length-put, length-undone, takes_take, good_take, undone_take, taken_put, recalls_more, renewed_stands, put_back_stands}
use Rattle.line.proofs.Replying.{ok_means, plain_right}
use Rattle.line.proofs.Filling.{any_today}

-- a back that is not refused has an open trial
back_open : (n : ℕ) (trial : Option ℕ) (rs : Rooms) (bad : Bool) → back_refusal n trial rs bad ≡ None → in_trial trial ≡ true
back_open n trial rs bad passed = grind (arith, passed)

-- an accepted set is an entry more
counted_trial : (t : Option (List Station)) (e : ℕ) → one_more (trial_with t e) ≡ trial_with t (counted t e)
counted_trial None e = refl
counted_trial (Some old) e = refl

module _ {E C : Type 0} (o : KindOps E C) where
  set_refusal_take : (n : ℕ) (trial : Option ℕ) (xs : List Station) (rs : Rooms) (p : ℕ) (v : Values)
      → set_refusal o n trial xs rs p v ≡ set_refusal o n trial (take n xs) rs p v
  set_refusal_take n trial xs rs p v = with_it (no_window n p p) refl where
    by : Bool → Bool → Option ℕ
    by outside taken = first ((lacks_room n trial rs, 2) ∷ (outside, 6) ∷ (not taken, 5) ∷ (in_trial trial && nat_le rs.journal (entries_of trial), 11) ∷ [])

    with_it : (b : Bool) → no_window n p p ≡ b → by (no_window n p p) (takes_at o xs p v) ≡ by (no_window n p p) (takes_at o (take n xs) p v)
    with_it true is = ap (λ b. by b (takes_at o xs p v)) is ∙ sym (ap (λ b. by b (takes_at o (take n xs) p v)) is)
    with_it false is = let (low, high) = inside n p is in ap (by (no_window n p p)) (sym (takes_take o n xs p v low high))

  -- what a set that is not refused has found
  pub record Settable (n : ℕ) (trial : Option ℕ) (xs : List Station) (rs : Rooms) (p : ℕ) (v : Values) : Type 0 where
    pub low : 1 ≤ p
    pub high : p ≤ n
    pub taken : takes_at o xs p v ≡ true
    pub free : in_trial trial ≡ true → entries_of trial < rs.journal

  settable : (n : ℕ) (trial : Option ℕ) (xs : List Station) (rs : Rooms) (p : ℕ) (v : Values) → set_refusal o n trial xs rs p v ≡ None
      → Settable n trial xs rs p v
  settable n trial xs rs p v passed = record {
    low = grind (arith, passed);
    high = grind (arith, passed);
    taken = grind (arith, passed);
    free = λ open_now. grind (arith, passed, open_now);
  }

  -- the trial after an accepted set: what stood at the place is the newest entry
  trial_after : (xs : List Station) (t : Option (List Station)) (e : ℕ) (p : ℕ) (v : Values) (x : Station) (js : List Entry)
      → 1 ≤ p → p ≤ length xs → slice_get xs (p - 1) ≡ Some x → takes_all o xs ≡ true
      → (in_trial (trial_with t e) ≡ true → entries_of (trial_with t e) < length js)
      → TrialIs o xs t e js → TrialIs o (put xs p v) t (counted t e) (entered (trial_with t e) p (Some x) js)
  trial_after xs None e p v x js low high is all free none = none
  trial_after xs (Some old) e p v x js low high is all free (room, recalls) =
      let lt : e < length js = free refl in
      let entry : Entry = record { place = p; values = values_of x } in
      (omega (arith, length-set js e entry, lt), rw (take_more_set js e entry lt) (recalls_more o xs old (take e js) p v x low high is all recalls))

  module _ {K : Type 0} (m : Meaning) where
    set_due : (p : ℕ) (v : Values) (s : State (Standing K) C) (h : Heard) → Stands o h s
        → set_refusal o (count_of s.line) s.line.trial s.list (rooms s) p v ≡ set_refusal o (length h.view.standing) (trial_of h) h.view.standing (rooms s) p v
    set_due p v s h as_heard =
        set_refusal_take (count_of s.line) s.line.trial s.list (rooms s) p v
        ∙ ap (λ l. set_refusal o (count_of s.line) s.line.trial l (rooms s) p v) as_heard.listed
        ∙ ap (λ n. set_refusal o n s.line.trial h.view.standing (rooms s) p v) as_heard.number
        ∙ ap (λ t. set_refusal o (length h.view.standing) t h.view.standing (rooms s) p v) as_heard.trial

    set_at : (p : ℕ) (v : Values) (s t : State (Standing K) C) (n : ℕ) → SetCall o p v s (Ok n) t → (h : Heard) → Stands o h s
        → (rs : Rooms) → rs.journal ≡ length s.journal → Settable (length h.view.standing) (trial_of h) h.view.standing rs p v
        → (x : Station) → slice_get h.view.standing (p - 1) ≡ Some x → Stands o (heard_on h (Set p v) true) t
    set_at p v s t n call h as_heard rs room found x is =
        let xs = h.view.standing in
        let many = count_of s.line in
        let number = as_heard.number in
        let count : count_of t.line ≡ many = ap (λ t. t.shape.stations) call.tree in
        let listed : take many t.list ≡ put xs p v =
        ap (take many) call.list ∙ put_take many s.list p v found.low (omega (arith, found.high, number)) ∙ ap (λ l. put l p v) as_heard.listed in
        let stood : slice_get s.list (p - 1) ≡ Some x =
        sym (get_take many (p - 1) s.list (omega (arith, found.low, found.high, number))) ∙ ap (λ l. slice_get l (p - 1)) as_heard.listed ∙ is in
        let stands : StandsFor o (put xs p v) t.nodes =
        renewed_stands o p xs v t.list s.nodes t.nodes found.low found.high (rw (← number) listed) as_heard.nodes (rw (← number) call.nodes) in
        let journal : t.journal ≡ entered (trial_of h) p (Some x) s.journal =
        call.journal ∙ ap (λ t. entered t p (slice_get s.list (p - 1)) s.journal) as_heard.trial ∙ ap (λ y. entered (trial_of h) p y s.journal) stood in
        let free : in_trial (trial_of h) ≡ true → entries_of (trial_of h) < length s.journal = λ open_now. omega (arith, room, found.free open_now) in
        record {
          closed = as_heard.closed;
          number = count ∙ number ∙ sym (length-put xs p v);
          listed = ap (λ n. take n t.list) count ∙ listed;
          taken = taken_put o xs p v as_heard.taken found.taken;
          nodes = stands;
          today = any_today o (put xs p v) t.nodes stands;
          trial = call.trial ∙ ap one_more as_heard.trial ∙ counted_trial h.view.remembered h.entries;
          entries = rw journal (trial_after xs h.view.remembered h.entries p v x s.journal found.low found.high is as_heard.taken free as_heard.entries);
        }

    set_after : (p : ℕ) (v : Values) (s t : State (Standing K) C) (n : ℕ) → SetCall o p v s (Ok n) t → (h : Heard) → Stands o h s
        → Stands o (heard_on h (Set p v) true) t
    set_after p v s t n call h as_heard =
        let (none, same) = ok_means _ _ n call.answer in
        let xs = h.view.standing in
        let found = settable (length xs) (trial_of h) xs (rooms s) p v (sym (set_due p v s h as_heard) ∙ none) in
        let (x, is) = slice_get_some xs (p - 1) (omega (arith, found.low, found.high)) in
        set_at p v s t n call h as_heard (rooms s) refl found x is

    pub set_law : (p : ℕ) (v : Values) (s t : State (Standing K) C) (r : Result ℕ Refusal) → SetCall o p v s r t → (h : Heard) → Stands o h s
        → Follows o m (rooms s) h (Set p v) (reply_of r) (λ after. Stands o after t)
    set_law p v s t r call h as_heard = record {
      right = plain_right o m (rooms s) h (Set p v) r _ _ call.answer (ap not as_heard.closed) (set_due p v s h as_heard) (ap (λ n. Done (height n)) as_heard.number);
      after = with_it r call;
    } where
      with_it : (r : Result ℕ Refusal) → SetCall o p v s r t → Stands o (heard_on h (Set p v) (took (reply_of {C = C} r))) t
      with_it (Err e) call = rw call.refused as_heard
      with_it (Ok n) call = set_after p v s t n call h as_heard

    -- the entries that the line counts are those that were heard of
    entries_are : (line : Standing K) (list : List Station) (nodes : List C) (journal : List Entry) (h : Heard)
        → Stands o h (at line list nodes journal)
        → entries_of line.trial ≡ h.entries
    entries_are line list nodes journal h as_heard = ap entries_of as_heard.trial ∙ with_it h.view.remembered as_heard.entries where
      with_it : (t : Option (List Station)) → TrialIs o h.view.standing t h.entries journal → entries_of (trial_with t h.entries) ≡ h.entries
      with_it None none = sym none
      with_it (Some old) all = refl

    -- none of them is one that cannot be put back
    none_bad : (s : State (Standing K) C) (h : Heard) → Stands o h s → any_bad o (count_of s.line) s.list (noted s) ≡ false
    none_bad s h as_heard =
        let now : any_bad o (count_of s.line) h.view.standing (noted s) ≡ false =
        rw (as_heard.number, as_heard.trial) (with_it h.view.remembered as_heard.entries) in
        good_take o (count_of s.line) s.list (noted s) (rw as_heard.listed now)
      where
        with_it : (t : Option (List Station)) → TrialIs o h.view.standing t h.entries s.journal
            → any_bad o (length h.view.standing) h.view.standing (take (entries_of (trial_with t h.entries)) s.journal) ≡ false
        with_it None none = refl
        with_it (Some old) (room, recalls) = recalls.good

    -- in a trial they give the remembered stations
    recalled : (s : State (Standing K) C) (h : Heard) → Stands o h s → in_trial (trial_of h) ≡ true
        → (old : List Station) × (h.view.remembered ≡ Some old) × Recalls o h.view.standing old (noted s)
    recalled s h as_heard open_now = with_it h.view.remembered refl as_heard.entries open_now where
      with_it : (t : Option (List Station)) → h.view.remembered ≡ t → TrialIs o h.view.standing t h.entries s.journal
          → in_trial (trial_with t h.entries) ≡ true
          → (old : List Station) × (h.view.remembered ≡ Some old) × Recalls o h.view.standing old (noted s)
      with_it None is entries shut = absurd (grind (arith, shut))
      with_it (Some old) is (room, recalls) open_too =
          let all : noted s ≡ take h.entries s.journal = ap (λ t. take (entries_of t) s.journal) (as_heard.trial ∙ ap (λ t. trial_with t h.entries) is) in
          (old, is, rw all recalls)

    pub try_law : (line line' : Standing K) (r : Result ℕ Refusal) → TryCall line r line'
        → (list : List Station) (nodes : List C) (journal : List Entry) (h : Heard)
        → Stands o h (at line list nodes journal) → Follows o m (rooms_of list nodes journal) h Try (reply_of r) (λ after. Stands o after (at line' list nodes journal))
    try_law line line' r call list nodes journal h as_heard = record {
      right = plain_right o m (rooms_of list nodes journal) h Try r _ _ call.answer (ap not as_heard.closed) (ap try_refusal as_heard.trial) refl;
      after = with_it r call;
    } where
      with_it : (r : Result ℕ Refusal) → TryCall line r line' → Stands o (heard_on h Try (took (reply_of {C = C} r))) (at line' list nodes journal)
      with_it (Err e) call = rw call.refused as_heard
      with_it (Ok n) call = record {
        closed = as_heard.closed;
        number = ap (λ t. t.shape.stations) call.tree ∙ as_heard.number;
        listed = ap (λ n. take n list) (ap (λ t. t.shape.stations) call.tree) ∙ as_heard.listed;
        taken = as_heard.taken;
        nodes = as_heard.nodes;
        today = as_heard.today;
        trial = call.trial;
        entries = (omega arith, record { old_ones = refl; taken = as_heard.taken; good = refl });
      }

    pub keep_law : (line line' : Standing K) (r : Result ℕ Refusal) → KeepCall line r line'
        → (list : List Station) (nodes : List C) (journal : List Entry) (h : Heard)
        → Stands o h (at line list nodes journal) → Follows o m (rooms_of list nodes journal) h Keep (reply_of r) (λ after. Stands o after (at line' list nodes journal))
    keep_law line line' r call list nodes journal h as_heard = record {
      right = plain_right o m (rooms_of list nodes journal) h Keep r _ _ call.answer (ap not as_heard.closed) (ap keep_refusal as_heard.trial) (ap Done (entries_are line list nodes journal h as_heard));
      after = with_it r call;
    } where
      with_it : (r : Result ℕ Refusal) → KeepCall line r line' → Stands o (heard_on h Keep (took (reply_of {C = C} r))) (at line' list nodes journal)
      with_it (Err e) call = rw call.refused as_heard
      with_it (Ok n) call = record {
        closed = as_heard.closed;
        number = ap (λ t. t.shape.stations) call.tree ∙ as_heard.number;
        listed = ap (λ n. take n list) (ap (λ t. t.shape.stations) call.tree) ∙ as_heard.listed;
        taken = as_heard.taken;
        nodes = as_heard.nodes;
        today = as_heard.today;
        trial = call.trial;
        entries = refl;
      }

    back_due : (s : State (Standing K) C) (h : Heard) → Stands o h s
        → back_refusal (count_of s.line) s.line.trial (rooms s) (any_bad o (count_of s.line) s.list (noted s)) ≡ back_refusal (length h.view.standing) (trial_of h) (rooms s) false
    back_due s h as_heard =
        ap (back_refusal (count_of s.line) s.line.trial (rooms s)) (none_bad s h as_heard)
        ∙ ap (λ n. back_refusal n s.line.trial (rooms s) false) as_heard.number
        ∙ ap (λ t. back_refusal (length h.view.standing) t (rooms s) false) as_heard.trial

    pub back_law : (s t : State (Standing K) C) (r : Result ℕ Refusal) → BackCall o s r t → (h : Heard) → Stands o h s
        → Follows o m (rooms s) h Back (reply_of r) (λ after. Stands o after t)
    back_law s t r call h as_heard = record {
      right = plain_right o m (rooms s) h Back r _ _ call.answer (ap not as_heard.closed) (back_due s h as_heard) (ap Done (entries_are s.line s.list s.nodes s.journal h as_heard));
      after = with_it r call;
    } where
      with_it : (r : Result ℕ Refusal) → BackCall o s r t → Stands o (heard_on h Back (took (reply_of {C = C} r))) t
      with_it (Err e) call = rw call.refused as_heard
      with_it (Ok n) call =
          let (none, same) = ok_means _ _ n call.answer in
          let xs = h.view.standing in
          let (old, is, recalls) = recalled s h as_heard (back_open (length xs) (trial_of h) (rooms s) false (sym (back_due s h as_heard) ∙ none)) in
          let count : count_of t.line ≡ count_of s.line = ap (λ t. t.shape.stations) call.tree in
          let long : length old ≡ length xs = ap length (sym recalls.old_ones) ∙ length-undone (noted s) xs in
          let listed : take (count_of s.line) t.list ≡ old =
          ap (take (count_of s.line)) call.list ∙ undone_take o (count_of s.line) s.list (noted s) (none_bad s h as_heard) ∙ ap (undone (noted s)) as_heard.listed ∙ recalls.old_ones in
          let stands : StandsFor o old t.nodes =
          rw (← recalls.old_ones) (put_back_stands o xs s.list (noted s) s.nodes t.nodes (rw (← as_heard.number) as_heard.listed) (rw (← as_heard.number) (none_bad s h as_heard))
          as_heard.nodes (rw (← as_heard.number) call.nodes)) in
          subst (λ ys. Stands o (record { view = record { standing = ys; remembered = None }; closed = h.closed; entries = 0 }) t) (sym (ap (λ o. unwrap_or o xs) is))
          (record {
            closed = as_heard.closed;
            number = count ∙ as_heard.number ∙ sym long;
            listed = ap (λ n. take n t.list) count ∙ listed;
            taken = recalls.taken;
            nodes = stands;
            today = any_today o old t.nodes stands;
            trial = call.trial;
            entries = refl;
          })
