-- Inside: chains of ANDs and ORs, from the left.
use Rattle.std.specs.Prelude.{List, [], ◌∷◌}
use Rattle.scan_base.specs.Predicate.{Pred, conjunction, disjunction}
use Rattle.scan_base.specs.View.{pred_of}
use Rattle.sql_query.specs.declared.query.Term.{Term}
use Rattle.query_binder.specs.declared.chain.Connective.{Connective}
use Rattle.query_binder.specs.declared.chain.Connective.TheVariants.{And, Or}
use Rattle.query_binder.specs.declared.chain.ChainLink.{ChainLink}

-- what stands after a predicate in a chain
pub record LinkAt : Type 0 where
  pub connective : Connective
  pub predicate : Pred Term

-- a side, without where its predicate lies in memory
abbrev pub link_of : ChainLink → LinkAt
link_of side = record { connective = side.connective; predicate = pred_of side.predicate.now }

-- a predicate with another after it
abbrev pub connected : {C : Type 0} → Connective → Pred C → Pred C → Pred C
connected And p q = conjunction p q
connected Or p q = disjunction p q

-- the predicate that a chain begins with
abbrev pub first_predicate : Pred Term → Pred Term
first_predicate (conjunction p q) = first_predicate p
first_predicate (disjunction p q) = first_predicate p
first_predicate p = p

-- what stands after it, the last first
abbrev pub links_of : Pred Term → List LinkAt
links_of (conjunction p q) = record { connective = And; predicate = q } ∷ links_of p
links_of (disjunction p q) = record { connective = Or; predicate = q } ∷ links_of p
links_of _ = []
