-- Run summaries: the same where their parts are; joining is associative, with the empty one neutral. So runs are lawful.
use Rattle.std.specs.Prelude.{◌≡◌, ℕ, ◌+◌, ◌≤◌, max, Bool, true, false, ◌&&◌, refl}
use Rattle.std.proofs.Common.{sym, arith}
use Rattle.std.proofs.Math.Bool.{Bool-set, and_assoc, and_comm}
use mathlib.Core.HLevel.{is_prop→PathP}
use Rattle.kind.specs.declared.summary.RunCell.{RunCell}
use Rattle.kind.specs.declared.summary.RunSummary.{RunSummary}
use Rattle.kind.specs.Laws.{KindLaws}
use Rattle.kind.specs.Sound.{sound}
use Rattle.kind.specs.Runs.{no_run, summary, joined_runs, Joined, goes_on, longest_of, capped, runs_kind}

same : (a b : RunSummary) → a.cell ≡ b.cell → a ≡ b
same a b e = λ i. record {
  cell = e i;
  ok = is_prop→PathP (λ j. sound (e j).all (e j).first (e j).last (e j).longest ≡ true) (λ j. Bool-set _ _) a.ok b.ok i;
}

abbrev counts : Bool → ℕ → ℕ → ℕ → RunCell
counts e f l g = record { all = e; first = f; last = l; longest = g }

pub is_summary : (a : RunSummary) (e : Bool) (f l g : ℕ) → a.cell.all ≡ e → a.cell.first ≡ f → a.cell.last ≡ l → a.cell.longest ≡ g → a ≡ summary e f l g
is_summary a e f l g p q r t = same a (summary e f l g) (grind arith)

-- parts that no summary has give the empty one
pub no_summary : (e : Bool) (f l g : ℕ) → sound e f l g ≡ false → summary e f l g ≡ no_run
no_summary e f l g h = grind arith

-- the test, as facts
record Facts (e : Bool) (f l g : ℕ) : Type 0 where
  pub low : f ≤ g
  pub high : l ≤ g
  pub bound : g ≤ 4294967295
  pub even : e ≡ true → (f ≡ g) × (l ≡ g)

facts : (a : RunSummary) → Facts a.cell.all a.cell.first a.cell.last a.cell.longest
facts a = grind arith

from_facts : (e : Bool) (f l g : ℕ) → Facts e f l g → sound e f l g ≡ true
from_facts e f l g k = grind arith

-- parts with these facts are the parts of their summary
kept : (e : Bool) (f l g : ℕ) → Facts e f l g → (summary e f l g).cell ≡ counts e f l g
kept e f l g k = grind arith

joined_facts : (a b : RunSummary) → Facts (a.cell.all && b.cell.all) (goes_on a.cell.all a.cell.first b.cell.first) (goes_on b.cell.all b.cell.last a.cell.last) (longest_of a.cell.longest b.cell.longest a.cell.last b.cell.first)
joined_facts a b = grind (arith, facts a, facts b)

pub joined_sound : (a b : RunSummary) → sound (a.cell.all && b.cell.all) (goes_on a.cell.all a.cell.first b.cell.first) (goes_on b.cell.all b.cell.last a.cell.last) (longest_of a.cell.longest b.cell.longest a.cell.last b.cell.first) ≡ true
joined_sound a b = from_facts _ _ _ _ (joined_facts a b)

pub parts : (a b : RunSummary) → Joined a b (joined_runs a b)
parts a b = grind (arith, joined_facts, kept)

-- a summary with these parts is the joining
pub is_joined : (a b r : RunSummary) → Joined a b r → r ≡ joined_runs a b
is_joined a b r j = same r (joined_runs a b) (grind (arith, parts a b))

first_assoc : (d e : Bool) (x y z : ℕ) → goes_on (d && e) (goes_on d x y) z ≡ goes_on d x (goes_on e y z)
first_assoc d e x y z = grind arith

-- two runs that the run t takes in count no more
taken_in : (a y u c v t : ℕ) → u ≤ t → v ≤ t → max (max (max (max a y) u) c) t ≡ max (max a (max (max y c) v)) t
taken_in a y u c v t h k = omega arith

longest_assoc : (e : Bool) (ga la fb lb gb fc gc : ℕ) → Facts e fb lb gb → longest_of (longest_of ga gb la fb) gc (goes_on e lb la) fc ≡ longest_of ga (longest_of gb gc lb fc) la (goes_on e fb fc)
longest_assoc true ga la fb lb gb fc gc x =
    let p = x.even refl in
    let e : capped (capped (gb + la) + fc) ≡ capped (la + capped (gb + fc)) = omega arith in
    rw (p.0, p.1, e) (taken_in ga gb (capped (la + gb)) gc (capped (gb + fc)) (capped (la + capped (gb + fc))) (omega arith) (omega arith))
longest_assoc false ga la fb lb gb fc gc x = omega arith

pub runs_assoc : (a b c : RunSummary) → joined_runs (joined_runs a b) c ≡ joined_runs a (joined_runs b c)
runs_assoc a b c =
    let ab = parts a b in
    let bc = parts b c in
    let abc = parts (joined_runs a b) c in
    is_joined a (joined_runs b c) (joined_runs (joined_runs a b) c) (record {
      all = cc (and_assoc a.cell.all b.cell.all c.cell.all);
      first = cc (first_assoc a.cell.all b.cell.all a.cell.first b.cell.first c.cell.first);
      last = cc (first_assoc c.cell.all b.cell.all c.cell.last b.cell.last a.cell.last, and_comm c.cell.all b.cell.all);
      longest = cc (longest_assoc b.cell.all a.cell.longest a.cell.last b.cell.first b.cell.last b.cell.longest c.cell.first c.cell.longest (facts b));
    })

pub runs_left : (a : RunSummary) → joined_runs no_run a ≡ a
runs_left a = sym (is_joined no_run a a (grind arith))

pub runs_right : (a : RunSummary) → joined_runs a no_run ≡ a
runs_right a = sym (is_joined a no_run a (grind arith))

-- a summary comes back from its cell
cell_back : (a : RunSummary) → runs_kind.element (runs_kind.cell a) ≡ a
cell_back a = sym (search is_summary)

pub runs_lawful : KindLaws runs_kind
runs_lawful = search (cell_back, runs_assoc, runs_left, runs_right)
