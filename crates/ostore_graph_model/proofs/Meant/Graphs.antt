-- The graph for which valid pages stand is one of their schema.
use Rattle.ostore_graph_model.specs.LawsOfGraphs.{LawOfGraphsOfSchema}
use Rattle.ostore_graph_model.specs.LawsOfMeaning.{HoldGraph}
use Rattle.ostore_graph_model.proofs.Meant.Rows.{live_is_drawn}
use Rattle.ostore_graph_model.proofs.Meant.Values.{object_is}
use Rattle.ostore_graph_model.proofs.Meant.Collections.{list_is, list_lives, dictionary_is, dictionary_lives}
use Rattle.ostore_graph_model.proofs.Meant.Pairs.{pair_is, first_lives, second_lives, one_partner}
use Rattle.ostore_graph_model.proofs.Meant.Roots.{root_is, roots_few, serial_is}
use Rattle.ostore_graph_model.proofs.Meant.Indexes.{index_lives, index_is}

pub graphs_of_schema : LawOfGraphsOfSchema
graphs_of_schema schema pages graph bytes valid stands =
    let holds : HoldGraph schema pages graph = record { pages_kept = valid.pages_kept; cells_kept = valid.cells_kept; stands = stands } in
    record {
      live = record {
        drawn = live_is_drawn schema pages graph holds;
        first = first_lives schema pages graph holds;
        second = second_lives schema pages graph holds valid.links_kept;
        lists = list_lives schema pages graph holds;
        dictionaries = dictionary_lives schema pages graph holds bytes;
        indexes = index_lives schema pages graph holds;
      };
      partners = one_partner schema pages graph holds valid.links_kept;
      objects = object_is schema pages graph holds bytes;
      pairs = pair_is schema pages graph holds;
      lists = list_is schema pages graph holds;
      dictionaries = dictionary_is schema pages graph holds bytes;
      roots = root_is schema pages graph holds;
      few_roots = roots_few schema pages graph holds;
      serials = serial_is schema pages graph holds bytes;
      indexes = index_is schema pages graph holds valid.indexes_kept;
    }
