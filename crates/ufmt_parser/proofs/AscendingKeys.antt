-- Keys that ascend: each comes before those after it, and keys with the same documents ascend too.
use Rattle.std.proofs.Common.{◌≡◌, ◌∙◌, refl, sym, ap, true≢false, List, [], ◌∷◌, ◌++◌, map, append_assoc}
use Rattle.std.specs.Prelude.{◌↔◌, All, Bool, IsTrue, Some, true, slice_get}
use Rattle.std.specs.BTreeMap.{insert_entry}
use Rattle.std.specs.Cmp.{IsTotalOrder, alike_right}
use Rattle.std.specs.List.{AllByRecursion}
use Rattle.std.specs.List.Sorted.{IsStrictlySortedBy}
use Rattle.std.specs.Map.{keys_of}
use Rattle.std.specs.Ordering.{is_lt}
use Rattle.std.specs.declared.cmp.Ordering.{Ordering}
use Rattle.std.specs.declared.cmp.Ordering.TheVariants.{Less, Equal, Greater}
use Rattle.ufmt_parser.specs.Blocks.{ComesBefore}
use Rattle.std.proofs.lemmas.List.Elements.{All-head, All-tail}
use Rattle.std.proofs.lemmas.Map.Keys.{sorted_head, sorted_tail}

-- what comes after others ascends, if all do
sorted_after : {K : Type 0} (cmp : K → K → Ordering) (before after : List K) → IsStrictlySortedBy cmp (before ++ after) → IsStrictlySortedBy cmp after
sorted_after cmp [] after sorted = sorted
sorted_after cmp (x ∷ xs) after sorted = sorted_after cmp xs after (sorted_tail cmp x (xs ++ after) sorted)

head_before : {K : Type 0} (cmp : K → K → Ordering) (k : K) (after : List K) → AllByRecursion (λ x. cmp k x ≡ Less) after → ComesBefore cmp k after
head_before cmp k [] all = tt
head_before cmp k (x ∷ xs) all = all.0

-- a key among others that ascend comes before those after it
pub before_next : {K : Type 0} (cmp : K → K → Ordering) (before : List K) (k : K) (after : List K) → IsStrictlySortedBy cmp (before ++ k ∷ after) → ComesBefore cmp k after
before_next cmp before k after sorted = head_before cmp k after (sorted_head cmp k after (sorted_after cmp before (k ∷ after) sorted))

-- an entry whose key comes before the first is inserted there
insert_entry-first : {K X : Type 0} (cmp : K → K → Ordering) (es : List (K × X)) (k : K) (v : X) → ComesBefore cmp k (keys_of es) → insert_entry cmp es k v ≡ (k, v) ∷ es
insert_entry-first cmp [] k v first = refl
insert_entry-first cmp (e ∷ es) k v first = rw first refl

-- an entry that is taken off the end of those that are left, and inserted before the others, leaves all in their order
pub entry_moved : {K X : Type 0} (cmp : K → K → Ordering) (left es : List (K × X)) (k : K) (v : X) {before more all : List (K × X)} → before ≡ left ++ (k, v) ∷ [] → ComesBefore cmp k (keys_of es)
    → more ≡ insert_entry cmp es k v → before ++ es ≡ all → left ++ more ≡ all
entry_moved cmp left es k v popped first inserted whole =
    ap (λ moved. left ++ moved) (inserted ∙ insert_entry-first cmp es k v first) ∙ sym (append_assoc left ((k, v) ∷ []) es) ∙ ap (λ front. front ++ es) (sym popped) ∙ whole

-- the keys of entries, with one in the middle
pub keys_split : {K X : Type 0} (before : List (K × X)) (e : K × X) (after : List (K × X)) → keys_of (before ++ e ∷ after) ≡ keys_of before ++ e.0 ∷ keys_of after
keys_split [] e after = refl
keys_split (x ∷ xs) e after = ap (λ ks. x.0 ∷ ks) (keys_split xs e after)

lt_is_Less : (r : Ordering) → is_lt r ≡ true → r ≡ Less
lt_is_Less Less is = refl
lt_is_Less Equal is = absurd (true≢false (sym is))
lt_is_Less Greater is = absurd (true≢false (sym is))

-- a key comes before those of entries if it comes before the first of them
pub before_entries : {K X : Type 0} (cmp : K → K → Ordering) (k : K) (es : List (K × X)) (e : K × X) (less : Bool) → slice_get es 0 ≡ Some e → less ≡ is_lt (cmp k e.0)
    → IsTrue less ↔ ComesBefore cmp k (keys_of es)
before_entries cmp k [] e less at is = absurd (cc)
before_entries cmp k (f ∷ es) e less at is =
    let key : f.0 ≡ e.0 = cc in
    (λ yes. ap (cmp k) key ∙ lt_is_Less (cmp k e.0) (sym is ∙ yes), λ first. is ∙ ap is_lt (ap (cmp k) (sym key) ∙ first))

-- of entries with the same parts, if the keys of some ascend, those of the others do too
module _ {E K Content : Type 0} {cmp : K → K → Ordering} (total : IsTotalOrder cmp) (key : E → K) (is : E → Type 0) (part : E → Content)
    (law : (x y : E) → is x → is y → part x ≡ part y → cmp (key x) (key y) ≡ Equal) where
  all_past : (v w : E) → is v → is w → part v ≡ part w → (vs ws : List E) → map part vs ≡ map part ws → All is vs → All is ws
      → AllByRecursion (λ k. cmp (key w) k ≡ Less) (map key ws) → AllByRecursion (λ k. cmp (key v) k ≡ Less) (map key vs)
  all_past v w is_v is_w same [] ws parts all_vs all_ws past = tt
  all_past v w is_v is_w same (x ∷ xs) [] parts all_vs all_ws past = cc
  all_past v w is_v is_w same (x ∷ xs) (y ∷ ys) parts all_vs all_ws past =
      let rest : map part xs ≡ map part ys = cc in
      let first = law v w is_v is_w same in
      let next = law x y (All-head is x xs all_vs) (All-head is y ys all_ws) cc in (
        total.congr (key v) (key w) (key x) first ∙ alike_right total (key x) (key y) (key w) next ∙ past.0,
        all_past v w is_v is_w same xs ys rest (All-tail is x xs all_vs) (All-tail is y ys all_ws) past.1,
      )

  pub ascend_too : (vs ws : List E) → map part vs ≡ map part ws → All is vs → All is ws → IsStrictlySortedBy cmp (map key ws) → IsStrictlySortedBy cmp (map key vs)
  unfolding IsStrictlySortedBy
  ascend_too [] ws parts all_vs all_ws sorted = tt
  ascend_too (v ∷ vs) [] parts all_vs all_ws sorted = cc
  ascend_too (v ∷ vs) (w ∷ ws) parts all_vs all_ws sorted =
      let rest : map part vs ≡ map part ws = cc in (
        all_past v w (All-head is v vs all_vs) (All-head is w ws all_ws) (cc) vs ws rest (All-tail is v vs all_vs) (All-tail is w ws all_ws) sorted.0,
        ascend_too vs ws rest (All-tail is v vs all_vs) (All-tail is w ws all_ws) sorted.1,
      )
