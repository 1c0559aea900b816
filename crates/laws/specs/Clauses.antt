-- A goal of several clauses asks a record by their names; a lemma that proves them together ends in a product. These
-- take the product apart.

pub of_two : {A B R : Type 0} → (A → B → R) → A × B → R
of_two f h = f h.0 h.1

pub of_three : {A B C R : Type 0} → (A → B → C → R) → A × B × C → R
of_three f h = f h.0 h.1 h.2

pub of_four : {A B C D R : Type 0} → (A → B → C → D → R) → A × B × C × D → R
of_four f h = f h.0 h.1 h.2 h.3

pub of_five : {A B C D E R : Type 0} → (A → B → C → D → E → R) → A × B × C × D × E → R
of_five f h = f h.0 h.1 h.2 h.3 h.4
