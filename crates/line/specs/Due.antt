-- What each request is due: by what was heard up to it, and by the room of the caller's spaces.
-- Words: standing_count, out_of_turn, refusal_due, AnswerLaw, WindowAnswer, RingAnswer, Tells, Due, RightReply, Follows, LeftByClose, GoesOn.
use Rattle.std.specs.Prelude.{◌≡◌, ℕ, ◌+◌, ◌-◌, ◌^◌, Bool, true, false, not, List, Option, Some, None, Result, Ok, Err, length}
use Rattle.refusal.specs.declared.Refusal.{Refusal}
use Rattle.station.specs.declared.record.Station.{Station}
use Rattle.kind.specs.declared.figures.Figures.{Figures}
use Rattle.kind.specs.Laws.{KindOps}
use Rattle.kind.specs.Meaning.{Meaning}
use Rattle.kind.specs.Stretch.{joined_all}
use Rattle.tree.specs.Shape.{height}
use Rattle.tree.specs.Blocks.{BlockJoins}
use Rattle.tree.specs.Gathered.{stretch, joined_stations}
use Rattle.line.specs.declared.values.Entry.{Entry}
use Rattle.line.specs.declared.lines.Filling.{Filling}
use Rattle.line.specs.declared.lines.Standing.{Standing}
use Rattle.line.specs.declared.rooms.Rooms.{Rooms}
use Rattle.line.specs.declared.request.Request.{Request}
use Rattle.line.specs.declared.request.Request.TheVariants.{Add, Close, Set, Try, Keep, Back, Ask, Ring}
use Rattle.line.specs.declared.reply.Answer.{Answer}
use Rattle.line.specs.declared.reply.Reply.{Reply}
use Rattle.line.specs.declared.reply.Reply.TheVariants.{Done, Told, OutOfTurn}
use Rattle.line.specs.View.{Heard, made, heard_on}
use Rattle.line.specs.State.{State, at, rooms}
use Rattle.line.specs.Refused.{add_refusal, close_refusal, set_refusal, try_refusal, keep_refusal, back_refusal, ask_refusal, ring_refusal}
use Rattle.line.specs.Replies.{cell_answer, number_in, took}
use Rattle.line.specs.Agreement.{trial_of, Fills, Stands}

-- how many stations stand
abbrev pub standing_count : Heard → ℕ
standing_count h = length h.view.standing

-- a request that the line, filling or closed, does not take
abbrev pub out_of_turn : Bool → Request → Bool
out_of_turn closed (Add label v) = closed
out_of_turn closed Close = closed
out_of_turn closed (Set p v) = not closed
out_of_turn closed Try = not closed
out_of_turn closed Keep = not closed
out_of_turn closed Back = not closed
out_of_turn closed (Ask from to) = not closed
out_of_turn closed Ring = not closed

module _ {E C : Type 0} (o : KindOps E C) where
  -- the number of the first condition that holds. 12 is never due: each entry can be put back (`good` of `Recalls`).
  abbrev pub refusal_due : Rooms → Heard → Request → Option ℕ
  refusal_due r h (Add label v) = add_refusal o (standing_count h) r.list label.now (made label.now v)
  refusal_due r h Close = close_refusal (standing_count h) r.list r.nodes
  refusal_due r h (Set p v) = set_refusal o (standing_count h) (trial_of h) h.view.standing r p v
  refusal_due r h Try = try_refusal (trial_of h)
  refusal_due r h Keep = keep_refusal (trial_of h)
  refusal_due r h Back = back_refusal (standing_count h) (trial_of h) r false
  refusal_due r h (Ask from to) = ask_refusal (standing_count h) (trial_of h) r from to
  refusal_due r h Ring = ring_refusal o (standing_count h) (trial_of h) r

  -- the answer of a window of a line of n stations, whose own stations are xs
  pub record AnswerLaw (shows : E → Figures) (means : List Station → Figures) (n from to : ℕ) (xs : List Station) (a : Answer E) : Type 0 where
    -- their elements joined from left to right, from the first and also from the empty one
    pub joined : Some a.element ≡ joined_stations o xs
    pub from_empty : a.element ≡ joined_all o xs
    -- the kind's figures of that element, and what they mean
    pub figures : a.figures ≡ shows a.element
    pub meant : a.figures ≡ means xs
    -- a join for each of the window's largest whole blocks but one
    pub joins : BlockJoins (height n) from to a.joins

  -- the answer of the places of a window, and of the ring
  abbrev pub WindowAnswer : Meaning → Heard → ℕ → ℕ → Answer E → Type 0
  WindowAnswer m h from to a = AnswerLaw o.window m.window (standing_count h) from to (stretch h.view.standing from to) a

  abbrev pub RingAnswer : Meaning → Heard → Answer E → Type 0
  RingAnswer m h a = AnswerLaw o.ring m.ring (standing_count h) 1 (standing_count h) h.view.standing a

  -- a reply that tells such an answer
  abbrev pub Tells : Reply C → (Answer E → Type 0) → Type 0
  Tells reply Law = (a : Answer E) × (reply ≡ Told (cell_answer o a)) × Law a

  -- what an accepted request is answered
  abbrev pub Due : Meaning → Heard → Request → Reply C → Type 0
  Due m h (Add label v) reply = reply ≡ Done (standing_count h + 1)
  Due m h Close reply = reply ≡ Done (2 ^ height (standing_count h) - 1)
  Due m h (Set p v) reply = reply ≡ Done (height (standing_count h))
  Due m h Try reply = reply ≡ Done 0
  Due m h Keep reply = reply ≡ Done h.entries
  Due m h Back reply = reply ≡ Done h.entries
  Due m h (Ask from to) reply = Tells reply (WindowAnswer m h from to)
  Due m h Ring reply = Tells reply (RingAnswer m h)

  -- the reply to a call is a refusal with the due number, or the due answer; a request out of turn is told so
  pub record RightReply (m : Meaning) (r : Rooms) (h : Heard) (q : Request) (reply : Reply C) : Type 0 where
    pub no_call : out_of_turn h.closed q ≡ true → reply ≡ OutOfTurn
    pub refusal : out_of_turn h.closed q ≡ false → number_in reply ≡ refusal_due r h q
    pub answer : out_of_turn h.closed q ≡ false → refusal_due r h q ≡ None → Due m h q reply

  -- a call on a line that agreed with what was heard: its reply is right, and After holds of all that is heard then
  pub record Follows (m : Meaning) (r : Rooms) (h : Heard) (q : Request) (reply : Reply C) (After : Heard → Type 0) : Type 0 where
    pub right : RightReply m r h q reply
    pub after : After (heard_on h q (took reply))

  -- what a close leaves: a standing line, with any journal, or the filling line
  abbrev pub LeftByClose : {K : Type 0} → List Station → List C → Result (Standing K × ℕ) (Filling K × Refusal) → Heard → Type 0
  LeftByClose list nodes (Ok given) h = (journal : List Entry) → Stands o h (at given.0 list nodes journal)
  LeftByClose list nodes (Err back) h = Fills o h back.0 list

  -- a standing line that agrees with what was heard still agrees after the call, and the reply is right
  abbrev pub GoesOn : {K : Type 0} → Meaning → State (Standing K) C → Request → Reply C → State (Standing K) C → Type 0
  GoesOn m s q reply t = (h : Heard) → Stands o h s → Follows m (rooms s) h q reply (λ after. Stands o after t)
