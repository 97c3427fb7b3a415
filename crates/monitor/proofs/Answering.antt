-- The length that is told of a text is that of its answers, whichever space they are written into.
use Rattle.std.proofs.Common.{◌≡◌, ℕ, ◌<◌, List, length, sym, ap, ◌∙◌}
use Rattle.text.specs.declared.answer.Answer.{Answer}
use Rattle.text.specs.Writing.{greatest_length, told_length}
use Rattle.text.proofs.Counting.{filled_exactly}
use Rattle.text.specs.AnswerText.{answers_text}
use Rattle.session.specs.Session.{Session, AnswersAre, SessionWrites}

pub told_of_any : (limit : ℕ) (s old : List ℕ) (needed : ℕ) (new : List ℕ) → SessionWrites limit s old needed new
    → (xs : List Answer) → Session limit s xs → needed ≡ told_length (answers_text xs)
told_of_any limit s old needed new one xs is = one.told ∙ sym (ap (λ ys. told_length (answers_text ys)) (one.only xs is))

-- memory as long as the answers is filled by them
pub answers_fill : (limit : ℕ) (s room : List ℕ) (needed : ℕ) (new : List ℕ)
    → ((xs : List Answer) → Session limit s xs → length room ≡ told_length (answers_text xs)) → length room < greatest_length
    → SessionWrites limit s room needed new → AnswersAre limit s new
answers_fill limit s room needed new long short two =
    (two.answers, two.session, two.written ∙ filled_exactly (answers_text two.answers) room (long two.answers two.session) short)
