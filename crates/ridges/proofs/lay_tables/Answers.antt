-- `lay_tables` meets its contract: each step leaves what the next one asks (specs/TableLayouts).
use Rattle.ridges.specs.TableLayouts.{areas_laid, table_layout_order, numbering_asks, orders, shares_fit, sharing_space}
use Rattle.ridges.specs.TableLayouts.{known_few, facets_count, touching_space, ones_asks, layout_kept}
use Rattle.ridges.proofs.TableLayouts.{inputs_are}
use Rattle.ridges.proofs.lay_tables.Goals as goal

pub number_ridges-opened-requires : goal.number_ridges-opened-requires
number_ridges-opened-requires c =
    numbering_asks c.requires.0 c.requires.1 c.requires.2 c.args.rows.count c.args.rows.bytes.now c.requires.3
    c.args.layout c.args.tables c.args.ws.now c.requires.4

pub share_facets-requires : goal.share_facets-requires
share_facets-requires c = let a = c.number_ridges-opened.ensures in
    rw c.as_slice.ensures.value (
      orders c.requires.0 c.requires.1 c.requires.2 c.args.rows.count c.args.rows.bytes.now
          c.requires.3 c.args.layout c.args.tables c.args.ws.now c.requires.4 _ _ a,
      shares_fit c.requires.0 c.requires.1 c.requires.2 c.args.rows.count c.args.rows.bytes.now c.requires.3
          c.args.layout c.args.tables c.args.ws.now c.requires.4 _ _ a,
      sharing_space c.requires.0 c.requires.1 c.requires.2 c.args.rows.count c.args.rows.bytes.now c.requires.3
          c.args.layout c.args.tables c.args.ws.now c.requires.4 _ _ a,
    )

pub touch_facets-requires : goal.touch_facets-requires
touch_facets-requires c =
    let a = c.number_ridges-opened.ensures in
    let b = rw c.as_slice.ensures.value at c.share_facets.ensures in
    let o = table_layout_order c.requires.0 c.requires.1 c.requires.2 c.args.rows.count c.args.rows.bytes.now
    c.requires.3 c.args.layout c.args.tables c.args.ws.now c.requires.4 in
    rw c.len-ridges.ensures.value (
      record {
        order = o.0;
        before = o.1;
        sound = b.pool.sound;
      },
      facets_count c.requires.0 c.requires.1 c.requires.2 c.args.rows.count
          c.args.rows.bytes.now c.requires.3 c.args.layout c.args.tables c.args.ws.now c.requires.4 _ _ a _ b,
      (known_few c.requires.0 c.requires.1 c.requires.2 c.args.rows.count c.args.rows.bytes.now c.requires.3
          c.args.layout c.args.tables c.args.ws.now c.requires.4 _ _ a).1,
      touching_space c.requires.0 c.requires.1 c.requires.2 c.args.rows.count c.args.rows.bytes.now c.requires.3
          c.args.layout c.args.tables c.args.ws.now c.requires.4 _ _ a _ b,
    )

pub lay_ones-requires : goal.lay_ones-requires
lay_ones-requires c =
    let a = c.number_ridges-opened.ensures in
    let b = rw c.as_slice.ensures.value at c.share_facets.ensures in
    let t = rw c.len-ridges.ensures.value at c.touch_facets.ensures in
    let o = table_layout_order c.requires.0 c.requires.1 c.requires.2 c.args.rows.count c.args.rows.bytes.now
    c.requires.3 c.args.layout c.args.tables c.args.ws.now c.requires.4 in
    let q = ones_asks c.requires.0 c.requires.1 c.requires.2 c.args.rows.count c.args.rows.bytes.now c.requires.3
    c.args.layout c.args.tables c.args.ws.now c.requires.4 _ _ a _ b _ t in
    rw c.len-ridges.ensures.value (
      record {
        order = o.0;
        before = o.1;
        sound = q.0;
      },
      q.1,
      (known_few c.requires.0 c.requires.1 c.requires.2 c.args.rows.count c.args.rows.bytes.now
          c.requires.3 c.args.layout c.args.tables c.args.ws.now c.requires.4 _ _ a).1,
      q.2,
    )

pub returns : goal.returns
returns c = (
  areas_laid _ _ _ _ c.areas_from.ensures,
  λ n most ridges kept g. let a = c.number_ridges-opened.ensures in
      let b = rw c.as_slice.ensures.value at c.share_facets.ensures in
      let t = rw c.len-ridges.ensures.value at c.touch_facets.ensures in
      let d = rw c.len-ridges.ensures.value at c.lay_ones.ensures in (
        rw (c.areas_from.ensures, c.len-ridges.ensures.value) (inputs_are n most ridges c.args.rows.count
            c.args.rows.bytes.now kept c.args.layout c.args.tables c.args.ws.now g _ _ a _ b _ t _ d),
        layout_kept n most ridges c.args.rows.count c.args.rows.bytes.now kept c.args.layout c.args.tables
            c.args.ws.now g _ _ a _ b _ t _ d,
      ),
)
