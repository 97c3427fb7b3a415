-- What a call answers and leaves is determined by what it was given.
use Rattle.std.specs.Prelude.{◌≡◌, ℕ, zero, suc, ◌+◌, ◌-◌, ◌*◌, ◌<◌, ◌≤◌, ◌==◌, cond, List, [], ◌∷◌, Some, None, Result, Ok, Err, IfOk, length, take, slice_get, refl}
use Rattle.std.proofs.Common.{sym, ◌∙◌, ap, subst, inl, inr, arith}
use Rattle.std.proofs.Math.Bridge.{le_prop}
use Rattle.std.proofs.lemmas.Bool.{cases_eq, cases_lt}
use Rattle.std.proofs.lemmas.List.{length-take}
use mathlib.Core.HLevel.{is_prop→PathP}
use Rattle.refusal.specs.declared.Refusal.{Refusal}
use Rattle.refusal.specs.declared.Refusal.TheVariants.{OutOfRange, SpaceTooShort, TooManyStations, BadLabel, NotTaken, OutsideLine, NoStation, RingTooShort, TrialOpen, NoTrial, JournalFull, BadEntry}
use Rattle.refusal.specs.Refusals.{number, by_number, by_number_as}
use Rattle.station.specs.declared.record.Station.{Station}
use Rattle.kind.specs.declared.figures.Figures.{Figures}
use Rattle.kind.specs.Laws.{KindOps}
use Rattle.tree.specs.declared.shape.Shape.{Shape}
use Rattle.tree.specs.declared.tree.Tree.{Tree}
use Rattle.tree.specs.Shape.{height, leaf, node_count}
use Rattle.tree.specs.Blocks.{Under}
use Rattle.tree.specs.Nodes.{cell_of, Rewritten}
use Rattle.tree.proofs.BlocksUnder.{at_most}
use Rattle.tree.proofs.Standing.{same_nodes, under_or_not}
use Rattle.line.specs.declared.values.Values.{Values}
use Rattle.line.specs.declared.values.Entry.{Entry}
use Rattle.line.specs.declared.lines.Filling.{Filling}
use Rattle.line.specs.declared.lines.Standing.{Standing}
use Rattle.history.specs.declared.step.Line.{Line}
use Rattle.history.specs.declared.step.Line.TheVariants.{Filling as FillingLine}
use Rattle.line.specs.declared.request.Request.{Request}
use Rattle.line.specs.declared.request.Request.TheVariants.{Add, Close, Set, Try, Keep, Back, Ask, Ring}
use Rattle.line.specs.declared.reply.Answer.{Answer}
use Rattle.line.specs.declared.reply.Reply.{Reply}
use Rattle.line.specs.declared.reply.Reply.TheVariants.{OutOfTurn}
use Rattle.line.specs.State.{State, at, count_of, noted, undone}
use Rattle.line.specs.Refused.{close_refusal}
use Rattle.line.specs.Calls.{AddCall, CloseCall, close_told, Renewed, SetCall, TryCall, KeepCall, PutBack, BackCall, joining_of, AskCall, RingCall}
use Rattle.line.specs.Replies.{reply_of, reply_of_answer, close_reply}
use Rattle.history.specs.Steps.{close_line}
use Rattle.history.specs.Steps.{with_line, FillingStep, StandingStep}
use Rattle.line.proofs.Replying.{ok_means}

-- lists with the same elements
same_list : {X : Type 0} (xs ys : List X) → ((k : ℕ) → slice_get xs k ≡ slice_get ys k) → xs ≡ ys
same_list [] [] at = refl
same_list [] (y ∷ ys) at = absurd (grind (arith, at 0))
same_list (x ∷ xs) [] at = absurd (grind (arith, at 0))
same_list (x ∷ xs) (y ∷ ys) at =
    let first : x ≡ y = cc (at 0) in
    let rest = same_list xs ys (λ k. at (suc k)) in
    ap (λ z. z ∷ xs) first ∙ ap (λ zs. y ∷ zs) rest

same_cells : {C : Type 0} (a b : List C) → ((k : ℕ) → 1 ≤ k → cell_of a k ≡ cell_of b k) → a ≡ b
same_cells a b at = same_list a b (λ k. let back : k + 1 - 1 ≡ k = omega arith in subst (λ i. slice_get a i ≡ slice_get b i) back (at (k + 1) (omega arith)))

-- records with the same parts
same_shape : (a b : Shape) → a.stations ≡ b.stations → a ≡ b
same_shape a b e = λ i. record {
  stations = e i;
  some = is_prop→PathP (λ j. 1 ≤ e j) (λ j. le_prop) a.some b.some i;
  few = is_prop→PathP (λ j. e j ≤ 4096) (λ j. le_prop) a.few b.few i;
}

module _ {K : Type 0} where
  same_filling : (a b : Filling K) → a.kind ≡ b.kind → a.stations ≡ b.stations → a ≡ b
  same_filling a b k e = λ i. record { kind = k i; stations = e i; few = is_prop→PathP (λ j. e j ≤ 4096) (λ j. le_prop) a.few b.few i }

  same_tree : (a b : Tree K) → a.kind ≡ b.kind → a.shape ≡ b.shape → a ≡ b
  same_tree a b k e = λ i. record { kind = k i; shape = e i }

  same_standing : (a b : Standing K) → a.tree ≡ b.tree → a.trial ≡ b.trial → a ≡ b
  same_standing a b k e = λ i. record { tree = k i; trial = e i }

same_answer : {E : Type 0} (a b : Answer E) → a.element ≡ b.element → a.figures ≡ b.figures → a.joins ≡ b.joins → a ≡ b
same_answer a b e f j = λ i. record { element = e i; figures = f i; joins = j i }

pub same_state : {L C : Type 0} (s t : State L C) → s.line ≡ t.line → s.list ≡ t.list → s.nodes ≡ t.nodes → s.journal ≡ t.journal → s ≡ t
same_state s t a b c d = λ i. record { line = a i; list = b i; nodes = c i; journal = d i }

-- a refusal is told by its number
abbrev refusal_with : ℕ → Refusal
refusal_with n =
    cond (n == 1) OutOfRange (cond (n == 2) SpaceTooShort (cond (n == 3) TooManyStations (cond (n == 4) BadLabel (cond (n == 5) NotTaken (cond (n == 6) OutsideLine
    (cond (n == 7) NoStation (cond (n == 8) RingTooShort (cond (n == 9) TrialOpen (cond (n == 10) NoTrial (cond (n == 11) JournalFull BadEntry))))))))))

with_number : (e : Refusal) → refusal_with (number e) ≡ e
with_number OutOfRange = refl
with_number SpaceTooShort = refl
with_number TooManyStations = refl
with_number BadLabel = refl
with_number NotTaken = refl
with_number OutsideLine = refl
with_number NoStation = refl
with_number RingTooShort = refl
with_number TrialOpen = refl
with_number NoTrial = refl
with_number JournalFull = refl
with_number BadEntry = refl

pub same_refusal : (d e : Refusal) → number d ≡ number e → d ≡ e
same_refusal d e is = sym (with_number d) ∙ ap refusal_with is ∙ with_number e

told_once : {A : Type 0} (r r' : Result A Refusal) → by_number r ≡ by_number r' → r ≡ r'
told_once (Ok a) (Ok b) is = ap Ok (cc is)
told_once (Ok a) (Err e) is = absurd (grind (arith, is))
told_once (Err d) (Ok b) is = absurd (grind (arith, is))
told_once (Err d) (Err e) is = ap Err (same_refusal d e (cc is))

-- a close that is not refused has the stations in its list
enough : (n room cells : ℕ) → close_refusal n room cells ≡ None → n ≤ room
enough n room cells passed = grind (arith, passed)

taken_long : {X : Type 0} (n : ℕ) (xs : List X) → n ≤ length xs → length (take n xs) ≡ n
taken_long n xs le = omega (arith, length-take n xs, le)

module _ {E C : Type 0} (o : KindOps E C) where
  -- node by node, from the last one on
  rewritten_from : (l : ℕ) (e : E) (old a b : List C) → Rewritten o l e old a → Rewritten o l e old b
      → (behind k : ℕ) → l < k + behind → 1 ≤ k → cell_of a k ≡ cell_of b k
  rewritten_from l e old a b at_a at_b zero k far low =
      let past : ¬ Under k l = λ u. absurd (omega (arith, at_most k l u)) in
      at_a.others k low past ∙ sym (at_b.others k low past)
  rewritten_from l e old a b at_a at_b (suc behind) k far low =
      elim (cases_eq k l) [
        | inl leaf_is ↦ subst (λ j. cell_of a j ≡ cell_of b j) (sym leaf_is) (at_a.leaf ∙ sym at_b.leaf)
        | inr other ↦
            elim (under_or_not l k l (omega arith) low) [
              | inl under ↦
                  let left = rewritten_from l e old a b at_a at_b behind (2 * k) (omega arith) (omega arith) in
                  let right = rewritten_from l e old a b at_a at_b behind (2 * k + 1) (omega arith) (omega arith) in
                  at_a.above k low other under ∙ rw (left, right) (sym (at_b.above k low other under))
              | inr none ↦ at_a.others k low none ∙ sym (at_b.others k low none)
            ]
      ]

  rewritten_once : (l : ℕ) (e : E) (old a b : List C) → Rewritten o l e old a → Rewritten o l e old b → a ≡ b
  rewritten_once l e old a b at_a at_b = same_cells a b (λ k low. rewritten_from l e old a b at_a at_b (l + 1) k (omega arith) low)

  renewed_once : (n p : ℕ) (xs : List Station) (old a b : List C) → Renewed o n p xs old a → Renewed o n p xs old b → a ≡ b
  renewed_once n p xs old a b (x, is, at_a) (y, was, at_b) =
      let found : Some x ≡ Some y = sym is ∙ was in
      let same : x ≡ y = cc found in
      rewritten_once (leaf (height n) p) (o.single x) old a b at_a (rw same at_b)

  put_back_once : (n : ℕ) (es : List Entry) (xs : List Station) (old a b : List C) → PutBack o n es xs old a → PutBack o n es xs old b → a ≡ b
  put_back_once n [] xs old a b at_a at_b = at_a ∙ sym at_b
  put_back_once n (e ∷ es) xs old a b (mid, done, renewed) (mid', done', renewed') =
      let same = put_back_once n es xs old mid mid' done done' in
      renewed_once n e.place (undone (e ∷ es) xs) mid a b renewed (rw same renewed')

  -- answers that are told alike, with the same figures of the same element
  answer_once : (shows : E → Figures) (r r' : Result (Answer E) Refusal) → by_number_as joining_of r ≡ by_number_as joining_of r'
      → IfOk r (λ a. a.figures ≡ shows a.element) → IfOk r' (λ a. a.figures ≡ shows a.element) → r ≡ r'
  answer_once shows (Ok a) (Ok b) is f g =
      let sums : joining_of a ≡ joining_of b = cc is in
      let some : Some a.element ≡ Some b.element = ap (λ s. s.element) sums in
      let element : a.element ≡ b.element = cc some in
      ap Ok (same_answer a b element (f ∙ ap shows element ∙ sym g) (ap (λ s. s.joins) sums))
  answer_once shows (Ok a) (Err e) is f g = absurd (grind (arith, is))
  answer_once shows (Err d) (Ok b) is f g = absurd (grind (arith, is))
  answer_once shows (Err d) (Err e) is f g = ap Err (same_refusal d e (cc is))

  module _ {K : Type 0} where
    add_once : (label : List ℕ) (v : Values) (old : Filling K) (xs : List Station) (r r' : Result ℕ Refusal) (new new' : Filling K) (ys ys' : List Station)
        → AddCall o label v old xs r new ys → AddCall o label v old xs r' new' ys' → (r ≡ r') × (new ≡ new') × (ys ≡ ys')
    add_once label v old xs r r' new new' ys ys' a b =
        let same = told_once r r' (a.answer ∙ sym b.answer) in
        let (line, list) = with_it r a (subst (λ x. AddCall o label v old xs x new' ys') (sym same) b) in
        (same, line, list)
      where
        with_it : (r : Result ℕ Refusal) → AddCall o label v old xs r new ys → AddCall o label v old xs r new' ys' → (new ≡ new') × (ys ≡ ys')
        with_it (Ok n) a b = (same_filling new new' (a.kind ∙ sym b.kind) (a.count ∙ sym b.count), a.list ∙ sym b.list)
        with_it (Err e) a b = (a.refused.0 ∙ sym b.refused.0, a.refused.1 ∙ sym b.refused.1)

    -- both closes are accepted with the same joins, or refused with the same refusal
    abbrev Alike : Result (Standing K × ℕ) (Filling K × Refusal) → Result (Standing K × ℕ) (Filling K × Refusal) → Type 0
    Alike (Ok x) (Ok y) = x.1 ≡ y.1
    Alike (Ok x) (Err y) = ⊥
    Alike (Err x) (Ok y) = ⊥
    Alike (Err x) (Err y) = x.1 ≡ y.1

    alike : (r r' : Result (Standing K × ℕ) (Filling K × Refusal)) → close_told r ≡ close_told r' → Alike r r'
    alike (Ok x) (Ok y) is = cc is
    alike (Ok x) (Err y) is = absurd (grind (arith, is))
    alike (Err x) (Ok y) is = absurd (grind (arith, is))
    alike (Err x) (Err y) is = same_refusal x.1 y.1 (cc is)

    filled_once : (old : Filling K) (xs : List Station) (cells : List C) (x y : Standing K × ℕ) (new new' : List C)
        → CloseCall o old xs cells (Ok x) new → CloseCall o old xs cells (Ok y) new' → new ≡ new'
    filled_once old xs cells x y new new' a b = same_cells new new' (λ k low. elim (cases_lt (node_count (height old.stations)) k) [
      | inl past ↦ a.behind k past ∙ sym (b.behind k past)
      | inr within ↦ filled_cell k low within
    ]) where
      zs : List Station
      zs = take old.stations xs

      long : length zs ≡ old.stations
      long = taken_long old.stations xs (enough old.stations (length xs) (length cells) (ok_means _ _ x.1 a.answer).0)

      filled_cell : (k : ℕ) → 1 ≤ k → k ≤ node_count (height old.stations) → cell_of new k ≡ cell_of new' k
      filled_cell k low within = same_nodes o (height (length zs)) zs new new' a.nodes b.nodes k low (rw long within)

    close_once : (old : Filling K) (xs : List Station) (cells : List C) (r r' : Result (Standing K × ℕ) (Filling K × Refusal)) (new new' : List C)
        → CloseCall o old xs cells r new → CloseCall o old xs cells r' new' → (r ≡ r') × (new ≡ new')
    close_once old xs cells r r' new new' a b = with_it r r' a b (alike r r' (a.answer ∙ sym b.answer)) where
      with_it : (r r' : Result (Standing K × ℕ) (Filling K × Refusal)) → CloseCall o old xs cells r new → CloseCall o old xs cells r' new' → Alike r r' → (r ≡ r') × (new ≡ new')
      with_it (Ok x) (Ok y) a b same =
          let (kind, count, trial) = a.line in
          let (kind', count', trial') = b.line in
          let shape = same_shape x.0.tree.shape y.0.tree.shape (count ∙ sym count') in
          let tree = same_tree x.0.tree y.0.tree (kind ∙ sym kind') shape in
          let line = same_standing x.0 y.0 tree (trial ∙ sym trial') in
          (λ i. Ok (line i, same i), filled_once old xs cells x y new new' a b)
      with_it (Err x) (Err y) a b same = (λ i. Err ((a.refused.0 ∙ sym b.refused.0) i, same i), a.refused.1 ∙ sym b.refused.1)
      with_it (Ok x) (Err y) a b same = absurd same
      with_it (Err x) (Ok y) a b same = absurd same

    set_once : (p : ℕ) (v : Values) (s t t' : State (Standing K) C) (r r' : Result ℕ Refusal) → SetCall o p v s r t → SetCall o p v s r' t' → (r ≡ r') × (t ≡ t')
    set_once p v s t t' r r' a b =
        let same = told_once r r' (a.answer ∙ sym b.answer) in
        (same, with_it r a (subst (λ x. SetCall o p v s x t') (sym same) b))
      where
        with_it : (r : Result ℕ Refusal) → SetCall o p v s r t → SetCall o p v s r t' → t ≡ t'
        with_it (Err e) a b = a.refused ∙ sym b.refused
        with_it (Ok n) a b =
            let list = a.list ∙ sym b.list in
            let nodes = renewed_once (count_of s.line) p t.list s.nodes t.nodes t'.nodes a.nodes (rw list b.nodes) in
            same_state t t' (same_standing t.line t'.line (a.tree ∙ sym b.tree) (a.trial ∙ sym b.trial)) list nodes (a.journal ∙ sym b.journal)

    back_once : (s t t' : State (Standing K) C) (r r' : Result ℕ Refusal) → BackCall o s r t → BackCall o s r' t' → (r ≡ r') × (t ≡ t')
    back_once s t t' r r' a b =
        let same = told_once r r' (a.answer ∙ sym b.answer) in
        (same, with_it r a (subst (λ x. BackCall o s x t') (sym same) b))
      where
        with_it : (r : Result ℕ Refusal) → BackCall o s r t → BackCall o s r t' → t ≡ t'
        with_it (Err e) a b = a.refused ∙ sym b.refused
        with_it (Ok n) a b =
            let nodes = put_back_once (count_of s.line) (noted s) s.list s.nodes t.nodes t'.nodes a.nodes b.nodes in
            same_state t t' (same_standing t.line t'.line (a.tree ∙ sym b.tree) (a.trial ∙ sym b.trial)) (a.list ∙ sym b.list) nodes (a.journal ∙ sym b.journal)

    ask_once : (from to : ℕ) (s : State (Standing K) C) (r r' : Result (Answer E) Refusal) → AskCall o from to s r → AskCall o from to s r' → r ≡ r'
    ask_once from to s r r' a b = answer_once o.window r r' (a.answer ∙ sym b.answer) a.figures b.figures

    ring_once : (s : State (Standing K) C) (r r' : Result (Answer E) Refusal) → RingCall o s r → RingCall o s r' → r ≡ r'
    ring_once s r r' a b = answer_once o.ring r r' (a.answer ∙ sym b.answer) a.figures b.figures

module _ {K : Type 0} where
  try_once : (old new new' : Standing K) (r r' : Result ℕ Refusal) → TryCall old r new → TryCall old r' new' → (r ≡ r') × (new ≡ new')
  try_once old new new' r r' a b =
      let same = told_once r r' (a.answer ∙ sym b.answer) in
      (same, with_it r a (subst (λ x. TryCall old x new') (sym same) b))
    where
      with_it : (r : Result ℕ Refusal) → TryCall old r new → TryCall old r new' → new ≡ new'
      with_it (Ok n) a b = same_standing new new' (a.tree ∙ sym b.tree) (a.trial ∙ sym b.trial)
      with_it (Err e) a b = a.refused ∙ sym b.refused

  keep_once : (old new new' : Standing K) (r r' : Result ℕ Refusal) → KeepCall old r new → KeepCall old r' new' → (r ≡ r') × (new ≡ new')
  keep_once old new new' r r' a b =
      let same = told_once r r' (a.answer ∙ sym b.answer) in
      (same, with_it r a (subst (λ x. KeepCall old x new') (sym same) b))
    where
      with_it : (r : Result ℕ Refusal) → KeepCall old r new → KeepCall old r new' → new ≡ new'
      with_it (Ok n) a b = same_standing new new' (a.tree ∙ sym b.tree) (a.trial ∙ sym b.trial)
      with_it (Err e) a b = a.refused ∙ sym b.refused

-- a request out of turn
turned_once : {L C : Type 0} (r r' : Reply C) (t t' u : State L C) → (r ≡ OutOfTurn) × (t ≡ u) → (r' ≡ OutOfTurn) × (t' ≡ u) → (r ≡ r') × (t ≡ t')
turned_once r r' t t' u (reply, is) (reply', is') = (reply ∙ sym reply', is ∙ sym is')

-- a request's reply and what it leaves, in either state
module _ {K E C : Type 0} (o : KindOps E C) where
  pub filling_once : (s : State (Filling K) C) (q : Request) (r r' : Reply C) (t t' : State (Line K) C) → FillingStep o s q r t → FillingStep o s q r' t'
      → (r ≡ r') × (t ≡ t')
  filling_once s (Add label v) r r' t t' (line, list, x, call, reply, is) (line', list', x', call', reply', is') =
      let (same, lines, lists) = add_once o label.now v s.line s.list x x' line line' list list' call call' in
      (reply ∙ ap reply_of same ∙ sym reply', is ∙ (λ i. at (FillingLine (lines i)) (lists i) s.nodes s.journal) ∙ sym is')
  filling_once s Close r r' t t' (nodes, x, call, reply, is) (nodes', x', call', reply', is') =
      let (same, cells) = close_once o s.line s.list s.nodes x x' nodes nodes' call call' in
      (reply ∙ ap close_reply same ∙ sym reply', is ∙ (λ i. at (close_line (same i)) s.list (cells i) s.journal) ∙ sym is')
  filling_once s (Set p v) r r' t t' a b = turned_once r r' t t' _ a b
  filling_once s Try r r' t t' a b = turned_once r r' t t' _ a b
  filling_once s Keep r r' t t' a b = turned_once r r' t t' _ a b
  filling_once s Back r r' t t' a b = turned_once r r' t t' _ a b
  filling_once s (Ask from to) r r' t t' a b = turned_once r r' t t' _ a b
  filling_once s Ring r r' t t' a b = turned_once r r' t t' _ a b

  pub standing_once : (s : State (Standing K) C) (q : Request) (r r' : Reply C) (t t' : State (Standing K) C) → StandingStep o s q r t → StandingStep o s q r' t'
      → (r ≡ r') × (t ≡ t')
  standing_once s (Add label v) r r' t t' a b = turned_once r r' t t' s a b
  standing_once s Close r r' t t' a b = turned_once r r' t t' s a b
  standing_once s (Set p v) r r' t t' (x, call, reply) (x', call', reply') =
      let (same, left) = set_once o p v s t t' x x' call call' in
      (reply ∙ ap reply_of same ∙ sym reply', left)
  standing_once s Try r r' t t' (x, call, reply, is) (x', call', reply', is') =
      let (same, lines) = try_once s.line t.line t'.line x x' call call' in
      (reply ∙ ap reply_of same ∙ sym reply', is ∙ ap (λ line. with_line line s) lines ∙ sym is')
  standing_once s Keep r r' t t' (x, call, reply, is) (x', call', reply', is') =
      let (same, lines) = keep_once s.line t.line t'.line x x' call call' in
      (reply ∙ ap reply_of same ∙ sym reply', is ∙ ap (λ line. with_line line s) lines ∙ sym is')
  standing_once s Back r r' t t' (x, call, reply) (x', call', reply') =
      let (same, left) = back_once o s t t' x x' call call' in
      (reply ∙ ap reply_of same ∙ sym reply', left)
  standing_once s (Ask from to) r r' t t' (x, call, reply, is) (x', call', reply', is') =
      (reply ∙ ap (reply_of_answer o) (ask_once o from to s x x' call call') ∙ sym reply', is ∙ sym is')
  standing_once s Ring r r' t t' (x, call, reply, is) (x', call', reply', is') =
      (reply ∙ ap (reply_of_answer o) (ring_once o s x x' call call') ∙ sym reply', is ∙ sym is')
