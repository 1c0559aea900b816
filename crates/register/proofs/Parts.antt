-- A goal of several clauses asks a record by their names; a lemma that proves them together, each before all that
-- follow it, ends in pairs within pairs. These take the pairs apart.

pub in_three : {A B C R : Type 0} → (A → B → C → R) → A × (B × C) → R
in_three f h = f h.0 h.1.0 h.1.1

pub in_six : {A B C D E F R : Type 0} → (A → B → C → D → E → F → R) → A × (B × (C × (D × (E × F)))) → R
in_six f h = f h.0 h.1.0 h.1.1.0 h.1.1.1.0 h.1.1.1.1.0 h.1.1.1.1.1
