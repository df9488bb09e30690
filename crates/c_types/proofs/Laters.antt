-- Each call leaves a later table.
use Rattle.std.proofs.Common.{◌≡◌, ◌≢◌, ◌⊎◌, ℕ, zero, suc, List, [], ◌∷◌, ◌++◌, length, Some, None, Ok, Err, Result, sym, ap, ◌∙◌, refl, subst, ⊎_elim, append-nil, append_assoc, slice_get, slice_set, Bool, Option, position}
use Rattle.c_types.specs.declared.kinds.CType.{CType}
use Rattle.c_types.specs.declared.kinds.Field.{Field}
use Rattle.c_types.specs.declared.kinds.TypeError.{TypeError}
use Rattle.c_types.specs.Table.{Types, Tag, fields_by, fields_of, shape_of}
use Rattle.c_types.specs.Adding.{added, added_by, added_tag, is_same, completed, completed_tags, with_fields, unless, fault_beside, members_fault, tag_kind, tag_of}
use Rattle.c_types.specs.Holds.{IsLater, IsLaterTag}
use Rattle.c_types.proofs.Lists.{get_kept, set_here, set_other}
use Rattle.c_types.proofs.Completed.{same_or}

itself : (a : Types) → IsLater a a
itself a = record {
  more = [];
  kinds = sym (append-nil a.kinds);
  tags = λ tag found at. (found, at, record { sort = refl; name = refl; fields = λ some. refl });
}

added_later : (a : Types) (kind : CType) (place : Option ℕ) → IsLater a (added_by place kind a).1
added_later a kind (Some place) = itself a
added_later a kind None = record {
  more = kind ∷ [];
  kinds = refl;
  tags = λ tag found at. (found, at, record { sort = refl; name = refl; fields = λ some. refl });
}

pub later_added : (a : Types) (kind : CType) → IsLater a (added kind a).1
unfolding added
later_added a kind = added_later a kind (position (is_same kind) a.kinds)

pub later_tag : (a : Types) (union_tag : Bool) (name : List ℕ) → IsLater a (added_tag union_tag name a).1
unfolding added_tag
later_tag a union_tag name = record {
  more = (added_tag_kind ∷ []);
  kinds = refl;
  tags = λ tag found at. (found, get_kept a.tags _ found tag at, record { sort = refl; name = refl; fields = λ some. refl });
}
  where
    added_tag_kind : CType
    added_tag_kind = tag_kind union_tag (length a.tags)

-- a fault beside fields that are there
no_fault : (fields : List Field) (fault : Option TypeError) → fault_beside fields fault ≡ None → fields ≡ []
no_fault [] fault none = refl
no_fault (f ∷ fields) fault none = cc

done : {A : Type 0} (fault : Option TypeError) (x y : A) → unless fault x ≡ Ok y → (fault ≡ None) × (x ≡ y)
done None x y e = (refl, cc)
done (Some why) x y e = cc

set_later : (a : Types) (tag : ℕ) (fields : List Field) (place : Option Tag) → slice_get a.tags tag ≡ place → fields_by place ≡ [] →
    IsLater a (record { kinds = a.kinds; tags = with_fields fields place a.tags tag })
set_later a tag fields None at none = record {
  more = [];
  kinds = sym (append-nil a.kinds);
  tags = λ t found here. (found, here, record { sort = refl; name = refl; fields = λ some. refl });
}
set_later a tag fields (Some old) at none = record
    { more = []; kinds = sym (append-nil a.kinds); tags = λ t found here. by_place t found here (same_or t tag) }
  where
    new : Tag
    new = record { union_tag = old.union_tag; name = old.name; fields = fields }

    by_place : (t : ℕ) (found : Tag) → slice_get a.tags t ≡ Some found → (t ≡ tag) ⊎ (t ≢ tag) →
        (later : Tag) × (slice_get (slice_set a.tags tag new) t ≡ Some later) × IsLaterTag found later
    by_place t found here either = ⊎_elim
        (λ (e : t ≡ tag).
        let at' : slice_get a.tags tag ≡ Some found = subst (λ m. slice_get a.tags m ≡ Some found) e here in
        let one : old ≡ found = cc in (
          new,
          subst (λ m. slice_get (slice_set a.tags tag new) m ≡ Some new) (sym e) (set_here a.tags tag new old at),
          record {
            sort = ap (λ x. x.union_tag) one;
            name = ap (λ x. x.name) one;
            fields = λ full. absurd (full (ap (λ x. x.fields) (sym one) ∙ none));
          },
        ))
        (λ (other : t ≢ tag). (found, set_other a.tags tag t new other ∙ here, record { sort = refl; name = refl; fields = λ full. refl }))
        either

pub later_completed : (a b : Types) (union_tag : Bool) (n : ℕ) (fields : List Field) → completed a union_tag n fields ≡ Ok b → IsLater a b
unfolding completed
later_completed a b union_tag n fields e =
    let d : (fault_beside (fields_of a.tags (tag_of a n)) (members_fault (shape_of a) union_tag n fields) ≡ None) ×
    (record { kinds = a.kinds; tags = completed_tags a.tags (tag_of a n) fields } ≡ b) = done _ _ b e in
    subst (IsLater a) d.1
    (set_later a (tag_of a n) fields (slice_get a.tags (tag_of a n)) refl (no_fault (fields_of a.tags (tag_of a n)) _ d.0))

pub chain : (a b c : Types) → IsLater a b → IsLater b c → IsLater a c
chain a b c x y = record {
  more = x.more ++ y.more;
  kinds = y.kinds ∙ (ap (λ ks. ks ++ y.more) x.kinds ∙ append_assoc a.kinds x.more y.more);
  tags = λ tag found at.
      let l : (later : Tag) × (slice_get b.tags tag ≡ Some later) × IsLaterTag found later = x.tags tag found at in
      let m : (later : Tag) × (slice_get c.tags tag ≡ Some later) × IsLaterTag l.0 later = y.tags tag l.0 l.1 in (
        m.0,
        m.1,
        record {
          sort = m.2.sort ∙ l.2.sort;
          name = m.2.name ∙ l.2.name;
          fields = λ some. m.2.fields (λ e. some (sym (l.2.fields some) ∙ e)) ∙ l.2.fields some;
        },
      );
}
