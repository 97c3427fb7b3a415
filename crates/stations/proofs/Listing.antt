-- A list as far as it is read.
use Rattle.std.proofs.Common.{◌≡◌, ℕ, ◌+◌, List, [], ◌++◌, Some, None, Result, sym, ap, ◌∙◌, subst, append_assoc, append-nil}
use Rattle.station.specs.declared.record.Station.{Station}
use Rattle.text.specs.declared.answer.Answer.{Answer}
use Rattle.text.specs.declared.fault.TextFault.{TextFault}
use Rattle.text.specs.declared.record.Record.{Record}
use Rattle.text.specs.declared.record.Damage.{Damage}
use Rattle.text.specs.Reading.{Outcome, next_of}
use Rattle.stations.specs.Lists.{Gives, stations_of, answers_of, Lists, ended, more}

-- what the text has from p on, behind these stations and answers, is what it has from its first byte on
pub record Goes (s : List ℕ) (p n : ℕ) (ys : List Station) (gs : List Answer) : Type 0 where
  pub goes : (xs : List Station) (fs : List Answer) → Lists s p n xs fs → Lists s 0 1 (ys ++ xs) (gs ++ fs)

pub goes_from : (s : List ℕ) → Goes s 0 1 [] []
goes_from s = record { goes = λ xs fs h. h }

pub goes_more : (s : List ℕ) (p n q : ℕ) (r : Result Record Damage) (o : Result Station TextFault) (ys zs : List Station) (gs hs : List Answer)
    → Goes s p n ys gs → Outcome s p (Some r) → Gives s p r o → q ≡ next_of r → zs ≡ ys ++ stations_of o → hs ≡ gs ++ answers_of n p o
    → Goes s q (n + 1) zs hs
goes_more s p n q r o ys zs gs hs h found gives e c d = record {
  goes = λ xs fs rest.
      let whole : Lists s 0 1 (ys ++ (stations_of o ++ xs)) (gs ++ (answers_of n p o ++ fs)) =
      h.goes (stations_of o ++ xs) (answers_of n p o ++ fs) (more r o found gives (subst (λ (k : ℕ). Lists s k (n + 1) xs fs) e rest)) in
      let stations : ys ++ (stations_of o ++ xs) ≡ zs ++ xs = sym (append_assoc ys (stations_of o) xs) ∙ ap (λ l. l ++ xs) (sym c) in
      let answers : gs ++ (answers_of n p o ++ fs) ≡ hs ++ fs = sym (append_assoc gs (answers_of n p o) fs) ∙ ap (λ l. l ++ fs) (sym d) in
      subst (λ l. Lists s 0 1 l (hs ++ fs)) stations (subst (Lists s 0 1 (ys ++ (stations_of o ++ xs))) answers whole);
}

pub goes_ended : (s : List ℕ) (p n : ℕ) (ys : List Station) (gs : List Answer) → Goes s p n ys gs → Outcome s p None → Lists s 0 1 ys gs
goes_ended s p n ys gs h e =
    subst (λ l. Lists s 0 1 l gs) (append-nil ys) (subst (Lists s 0 1 (ys ++ [])) (append-nil gs) (h.goes [] [] (ended e)))
