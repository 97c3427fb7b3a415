-- What a kind gives, and the joining laws that it keeps.
-- Words: KindOps, JoiningLaws, NeutralLaws, KindLaws.
use Rattle.std.specs.Prelude.{◌≡◌, ℕ, Bool, true}
use Rattle.station.specs.declared.record.Station.{Station}
use Rattle.kind.specs.declared.figures.Figures.{Figures}

-- E are the kind's elements, C its cells
pub record KindOps (E C : Type 0) : Type 1 where
  pub takes : Station → Bool
  pub fit : E → Type 0
  pub single : Station → E
  pub empty : E
  pub join : E → E → E
  pub cell : E → C
  pub element : C → E
  pub window : E → Figures
  pub ring : E → Figures
  pub shortest : ℕ

pub record JoiningLaws {E C : Type 0} (o : KindOps E C) : Type 0 where
  -- of all elements, fit or not
  pub cell_back : (a : E) → o.element (o.cell a) ≡ a
  pub single_fit : (x : Station) → o.takes x ≡ true → o.fit (o.single x)
  pub join_fit : (a b : E) → o.fit a → o.fit b → o.fit (o.join a b)
  pub assoc : (a b c : E) → o.fit a → o.fit b → o.fit c → o.join (o.join a b) c ≡ o.join a (o.join b c)

pub record NeutralLaws {E C : Type 0} (o : KindOps E C) : Type 0 where
  pub empty_fit : o.fit o.empty
  pub left : (a : E) → o.fit a → o.join o.empty a ≡ a
  pub right : (a : E) → o.fit a → o.join a o.empty ≡ a

pub record KindLaws {E C : Type 0} (o : KindOps E C) : Type 0 where
  pub joining : JoiningLaws o
  pub neutral : NeutralLaws o
