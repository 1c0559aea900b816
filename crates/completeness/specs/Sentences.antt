-- What each sentence of [13.8] refuses alone, shown of the square, without the one that names the search (`exactly`):
-- a list from which any entry is missing, one with an entry more, one with a foreign entry. Leans on Determined and
-- evaluates.
use Rattle.std.specs.Prelude.{◌≡◌, refl, Bool, not, List, [], ◌∷◌, ◌++◌, map, T, length, get_or, take, drop}
use Rattle.std.proofs.Common.{sym, ◌∙◌, subst, arith, T_not}
use Rattle.std.specs.Prelude.{None}
use Prim.Native.Nat.{ℕ, suc, Ordering}
use Rattle.std.proofs.Math.Dec.{compare_is_eq}
use Rattle.std.proofs.lemmas.List.{length-map}
use Rattle.definitions.specs.Lists.{any_of}
use Rattle.definitions.specs.Outcome.{Outcome}
use Rattle.definitions.specs.Search.{Facet}
use Rattle.definitions.specs.Recursion.{Entry}
use Rattle.definitions.specs.Faceting.{Prepared, table_for}
use Rattle.definitions.specs.Job.{read_job, counted, entry_words}
use Rattle.definitions.specs.Demands.{CallComplete, choice_of, choices_of, equal_shares}
use Rattle.definitions.specs.RuledOut.{same_entries, square_bytes, square_entries, open_square, other_figure}
use Rattle.definitions.specs.RuledOut.{closed_in_order, sensible}
use Rattle.definitions.proofs.RuledOut.{only_these, square_accepted, square_sensible}
use Rattle.laws.specs.Bools.{first}
use Rattle.laws.specs.Lists.{Mem, any_of_holds, member_at}
use Rattle.laws.specs.Orders.{nat_lists}
use Rattle.laws.specs.Sorting.{perm_length}
use Rattle.completeness.specs.Jobs.{accepted_answers}
use Rattle.completeness.specs.Determined.{EveryEntry, OneToOne, none_missing, same_choices}

-- ---- the square's call

pub square_call : CallComplete (read_job square_bytes) square_entries
unfolding open_square
square_call =
    let r = accepted_answers square_bytes square_accepted in
    let done = r.2.holds square_accepted tt in
    subst (CallComplete (read_job square_bytes)) (only_these (read_job square_bytes) r.0.entries done) done

abbrev pub p : Prepared
p = square_call.before

pub square_equal : T (equal_shares (table_for p))
unfolding sensible
square_equal =
    let lists = map (λ (e : Entry). e.before) square_entries in
    first (equal_shares (table_for p)) (closed_in_order (table_for p) lists)
    (subst (λ (o : Outcome Prepared). T (sensible o lists)) square_call.is_before square_sensible)

no_limit : (read_job square_bytes).entry_limit ≡ None
unfolding open_square
no_limit = refl

pub seven_entries : length square_entries ≡ 7
unfolding open_square
seven_entries = refl

-- ---- an entry among others, tested by its words

unfoldable pub among_them : Entry → List Entry → Bool
among_them e = any_of (λ (x : Entry). same_entries (e ∷ []) (x ∷ []))

pub among_them_holds : (e : Entry) (l : List Entry) → Mem e l → T (among_them e l)
unfolding among_them same_entries
among_them_holds e l m =
    any_of_holds (λ (x : Entry). same_entries (e ∷ []) (x ∷ [])) e l m
    (subst (λ (o : Ordering). T (compare_is_eq o)) (sym (nat_lists.self (counted entry_words (e ∷ [])))) tt)

-- ---- every closed choice has an entry

-- the square's entries without the one at a place
unfoldable pub left_out : ℕ → List Entry
left_out k = take k square_entries ++ drop (suc k) square_entries

unfoldable pub no_entry : Entry
no_entry = record { list = []; before = []; figure = [] }

-- ---- the records' own choices are all closed choices, once each

pub as_many : (l : List Entry) → OneToOne p l → length l ≡ 7
unfolding choices_of
as_many l one =
    let choice : Entry → List Facet = λ e. choice_of e.before in
    sym (length-map l choice)
    ∙ perm_length (same_choices p l square_entries one (square_call.complete.one_to_one no_limit square_equal))
    ∙ length-map square_entries choice ∙ seven_entries

-- refuses every entry more, and so each of the seven twice
pub none_twice : (e : Entry) → OneToOne p (e ∷ square_entries) → ⊥
none_twice e one = let n = as_many (e ∷ square_entries) one in let m = seven_entries in omega arith

-- ---- every entry is that of a closed choice

pub among_the_seven : (l : List Entry) → EveryEntry p l → (e : Entry) → Mem e l → Mem e square_entries
among_the_seven l every =
    none_missing p square_equal l square_entries every (square_call.complete.every_choice no_limit)

unfoldable pub first_of_other : Entry
first_of_other = get_or other_figure 0 no_entry

other_is_foreign : T (not (among_them first_of_other square_entries))
unfolding open_square among_them no_entry other_figure first_of_other
other_is_foreign = tt

seven_others : length other_figure ≡ 7
unfolding open_square other_figure
seven_others = refl

-- refuses the first entry with another figure
pub none_foreign : EveryEntry p other_figure → ⊥
unfolding first_of_other
none_foreign every =
    let seven = seven_others in
    T_not (among_them first_of_other square_entries) other_is_foreign
    (among_them_holds first_of_other square_entries
    (among_the_seven other_figure every first_of_other (member_at other_figure 0 no_entry (omega arith))))
