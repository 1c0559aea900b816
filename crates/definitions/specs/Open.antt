-- `open_all` on an `unfolding` line opens every definition of this crate, and the library's float operations and
-- list words that they use: for tests that compute.
use mathlib.Core.List.{flat_map, zip_with}
use Rattle.std.specs.Float.Ieee.{add, sub, mul, div, neg, lt, le, eq, of_bits, to_bits, fits, round, size}
use Rattle.definitions.specs.Lists.{is_gt, then_by, compare_list, insert_by, sort_by, any_of, all_of, keep, place_of}
use Rattle.definitions.specs.Lists.{fresh, choose, map_at, map_with, count_from, compare_pair, compare_nats}
use Rattle.definitions.specs.Lists.{compare_pairs, sort_nats, member_nat, member_pair}
use Rattle.definitions.specs.Outcome.{and_then, refuse_if}
use Rattle.definitions.specs.Vectors.{whole_root, twice_root, root_times, square_root, units_in, four_times}
use Rattle.definitions.specs.Vectors.{sum_squared, is_double, sign_of, has_root, dot_from, dot, value_of, norm}
use Rattle.definitions.specs.Vectors.{normalised, minus, plus_times}
use Rattle.definitions.specs.Subspace.{gains, project, residual, distance, add_point, add_points, from_points}
use Rattle.definitions.specs.Subspace.{is_hyperplane, flatten}
use Rattle.definitions.specs.Orbits.{image, point_at, vertex_openers, too_short, too_long, breaks_limit, pair_image}
use Rattle.definitions.specs.Orbits.{pair_openers, above, pairs_from, tuples, points_near, set_image, most_vertices}
use Rattle.definitions.specs.Orbits.{hyperplanes, hyperplane_orbits}
use Rattle.definitions.specs.Figures.{rank_of, compare_figures, number_in, renumber, sort_ranks, sort_strong, move_ends}
use Rattle.definitions.specs.Figures.{dyad, lowest_ranks, without_lowest, assemble, figure_of, components_of}
use Rattle.definitions.specs.Figures.{split_queue, parts_of, cons_in, with_second, compound_at, compounds_from, walk}
use Rattle.definitions.specs.Figures.{first_above, found_inside, seek, label_from, labels_of, label_irc}
use Rattle.definitions.specs.Search.{shares_of, shares_at, last_share, adds, total, totals, judge, all_facets, starts}
use Rattle.definitions.specs.Search.{uses_orbit, may_join, joined, ones_at, open_next, closed_next, put_in}
use Rattle.definitions.specs.Search.{limit_reached, emit, emit_if, examine, search}
use Rattle.definitions.specs.Recursion.{vertex_ridge, swapped_ends, separate_ends, edge_call, keeps_set, row_within}
use Rattle.definitions.specs.Recursion.{rows_within, call_on_set, inner_call, before_these, inner_calls, no_ridges}
use Rattle.definitions.specs.Recursion.{held_by, move_sorted, open_ridge_orbit, number_or_open, number_ridge}
use Rattle.definitions.specs.Recursion.{number_ridges, share_of, facet_shares, table_of}
use Rattle.definitions.specs.Faceting.{plain_way, orbits_of, prepare_from, prepare_with, prepare, table_for}
use Rattle.definitions.specs.Faceting.{possible_facets, split_in, at_orbit, split, facet_images, entry_of}
use Rattle.definitions.specs.Faceting.{compare_entries, entries_of, entry_limits, finish, search_from, answer_from}
use Rattle.definitions.specs.Faceting.{faceting, faceting_with}
use Rattle.definitions.specs.Job.{little, number_at, float_at, floats_at, vectors_at, flag_set, present, read_job}
use Rattle.definitions.specs.Job.{flagged_end, in_version, with_tolerance, with_rule, between, within, all_within}
use Rattle.definitions.specs.Job.{limit_good, is_finite, floats_good, tolerance_good, same_nats, is_permutation}
use Rattle.definitions.specs.Job.{workspace_for, header_tests, value_tests, job_tests, workspace_tests, tests, pass_all}
use Rattle.definitions.specs.Job.{bounds1, rules_of, plane_of, call_of, counted, figure_words, facet_words, entry_words}
use Rattle.definitions.specs.Job.{compound_words, is_end, used_points, summary_words, answer_words, word_bytes}
use Rattle.definitions.specs.Job.{answer_bytes, alone, fitting, outcome_within, outcome, code_of, buffer_of}
use Rattle.definitions.specs.Demands.{is_possible, orbits_ascend, is_choice, choice_of, is_closed_choice, lowest_open}
use Rattle.definitions.specs.Demands.{is_next, without, is_order_of, choices_of, same_where_same_ridge, equal_shares}
use Rattle.definitions.specs.Demands.{prepared_of}
use Rattle.definitions.specs.Symmetry.{composed, closed_rows, element_image}
use Rattle.definitions.specs.Batch.{cut_row, jobs_in, half_bytes, record_bytes, record_of, records_of, fitting_all}
use Rattle.definitions.specs.Batch.{batch}
use Rattle.definitions.specs.Prices.{read_tariff, tariff_good, price_of, sum, polygon_sizes, cost_of, discounted}
use Rattle.definitions.specs.Prices.{total_of, answer_of, quote_tests, figure_at, quote_from, quote, quote_code}
use Rattle.definitions.specs.Prices.{how_many, subtotals, by_size, long_bytes, slip_of, slip, with_room}
use Rattle.definitions.specs.Noble.{package_end, read_package, distinct, package_counts, globals_good, full_rows_good}
use Rattle.definitions.specs.Noble.{package_good, key_of, key_images, mark_of, portion, open_tally, add_portion}
use Rattle.definitions.specs.Noble.{add_to_tally, tally_by, tally_orbit, tally_orbits, sum_at, keeps_orbit, kept_by}
use Rattle.definitions.specs.NobleCalls.{noble_way, noble_call_of, package_tests, noble_tests, noble_alone}
use Rattle.definitions.specs.NobleCalls.{noble_outcome, noble_prepared_of}
use Rattle.definitions.specs.Plain.{is_found, finds, finds_other, filter_irc, split_lists, plain_of, plain_bytes}
use Rattle.definitions.specs.Plain.{plain_alone, plain_ones}

unfoldable pub open_all : Unit {0}
unfolding flat_map zip_with add sub mul div neg lt le eq of_bits to_bits fits round size is_gt then_by compare_list
    insert_by sort_by any_of all_of keep place_of fresh choose map_at map_with count_from compare_pair compare_nats
    compare_pairs sort_nats member_nat member_pair and_then refuse_if whole_root twice_root root_times square_root
    units_in four_times sum_squared is_double sign_of has_root dot_from dot value_of norm normalised minus plus_times
    gains project residual distance add_point add_points from_points is_hyperplane flatten image point_at
    vertex_openers too_short too_long breaks_limit pair_image pair_openers above pairs_from tuples points_near
    set_image most_vertices hyperplanes hyperplane_orbits rank_of compare_figures number_in renumber sort_ranks
    sort_strong move_ends dyad lowest_ranks without_lowest assemble figure_of components_of split_queue parts_of
    cons_in with_second compound_at compounds_from walk first_above found_inside seek label_from labels_of label_irc
    shares_of shares_at last_share adds total totals judge all_facets starts uses_orbit may_join joined ones_at
    open_next closed_next put_in limit_reached emit emit_if examine search vertex_ridge swapped_ends separate_ends
    edge_call keeps_set row_within rows_within call_on_set inner_call before_these inner_calls no_ridges held_by
    move_sorted open_ridge_orbit number_or_open number_ridge number_ridges share_of facet_shares table_of plain_way
    orbits_of prepare_from prepare_with prepare table_for possible_facets split_in at_orbit split facet_images
    entry_of compare_entries entries_of entry_limits finish search_from answer_from faceting faceting_with little
    number_at float_at floats_at vectors_at flag_set present read_job flagged_end in_version with_tolerance with_rule
    between within all_within limit_good is_finite floats_good tolerance_good same_nats is_permutation workspace_for
    header_tests value_tests job_tests workspace_tests tests pass_all bounds1 rules_of plane_of call_of counted
    figure_words facet_words entry_words compound_words is_end used_points summary_words answer_words word_bytes
    answer_bytes alone fitting outcome_within outcome code_of buffer_of is_possible orbits_ascend is_choice choice_of
    is_closed_choice lowest_open is_next without is_order_of choices_of same_where_same_ridge equal_shares prepared_of
    composed closed_rows element_image cut_row jobs_in half_bytes record_bytes record_of records_of fitting_all batch
    read_tariff tariff_good price_of sum polygon_sizes cost_of discounted total_of answer_of quote_tests figure_at
    quote_from quote quote_code how_many subtotals by_size long_bytes slip_of slip with_room package_end read_package
    distinct package_counts globals_good full_rows_good package_good key_of key_images mark_of portion open_tally
    add_portion add_to_tally tally_by tally_orbit tally_orbits sum_at keeps_orbit kept_by noble_way noble_call_of
    package_tests noble_tests noble_alone noble_outcome noble_prepared_of is_found finds finds_other filter_irc
    split_lists plain_of plain_bytes plain_alone plain_ones
open_all = tt
