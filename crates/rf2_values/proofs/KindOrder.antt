-- The order of kinds is that of their places.
use Rattle.std.proofs.Common.{◌≡◌, refl}
use Rattle.std.specs.Ordering.{nat_cmp}
use Rattle.rf2_values.specs.declared.row.Kind.{Kind}
use Rattle.rf2_values.specs.declared.row.Kind.TheVariants.{Concept, Description, Relationship, Association, Concrete, Member}
use Rattle.rf2_values.specs.contracts.row.KindOrd.TheImpl.{ghosts}
use Rattle.rf2_values.specs.Key.{kind_place}

pub kinds_by_place : (k l : Kind) → ghosts.cmp k l ≡ nat_cmp (kind_place k) (kind_place l)
kinds_by_place Concept Concept = refl
kinds_by_place Concept Description = refl
kinds_by_place Concept Relationship = refl
kinds_by_place Concept Association = refl
kinds_by_place Concept Concrete = refl
kinds_by_place Concept Member = refl
kinds_by_place Description Concept = refl
kinds_by_place Description Description = refl
kinds_by_place Description Relationship = refl
kinds_by_place Description Association = refl
kinds_by_place Description Concrete = refl
kinds_by_place Description Member = refl
kinds_by_place Relationship Concept = refl
kinds_by_place Relationship Description = refl
kinds_by_place Relationship Relationship = refl
kinds_by_place Relationship Association = refl
kinds_by_place Relationship Concrete = refl
kinds_by_place Relationship Member = refl
kinds_by_place Association Concept = refl
kinds_by_place Association Description = refl
kinds_by_place Association Relationship = refl
kinds_by_place Association Association = refl
kinds_by_place Association Concrete = refl
kinds_by_place Association Member = refl
kinds_by_place Concrete Concept = refl
kinds_by_place Concrete Description = refl
kinds_by_place Concrete Relationship = refl
kinds_by_place Concrete Association = refl
kinds_by_place Concrete Concrete = refl
kinds_by_place Concrete Member = refl
kinds_by_place Member Concept = refl
kinds_by_place Member Description = refl
kinds_by_place Member Relationship = refl
kinds_by_place Member Association = refl
kinds_by_place Member Concrete = refl
kinds_by_place Member Member = refl
